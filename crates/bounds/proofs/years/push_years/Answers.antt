use Rattle.std.proofs.Common.{◌≡◌, ◌-◌, ◌+◌, min, refl, arith}
use Rattle.definitions.specs.declared.block.Span.TheVariants.{Year}
use Rattle.definitions.specs.answers.Blocks.{span_end}
use Rattle.bounds.proofs.BlockLists.{none_asked, none_left, first_then, finished, moved}
use Rattle.bounds.proofs.years.push_years.Goals as goal

pub returns-then-lo-window : goal.returns-then-lo-window
returns-then-lo-window c =
    finished _ _ _ (none_left c.args.announced c.args.second Year (100 - c.loop.counter) c.loop.lo c.args.window.now.to c.if-lo-window.true) c.loop.invariant

pub loop-preserved : goal.loop-preserved
loop-preserved c =
    let window = c.args.window.now in
    let rest = 100 - c.loop.counter in
    let one : 100 - (c.loop.counter + 1) ≡ rest - 1 = omega arith in
    let end : c.min-hi.result ≡ min (span_end Year c.loop.lo) window.to = rw (c.min-hi.ensures, c.year_end.ensures) refl in
    let next = first_then c.args.announced c.args.second Year rest c.loop.lo window.to c.min-hi.result (omega arith) c.if-lo-window.false end in
    rw (one, c.in_ok-push.ensures.items) (moved _ _ _ _ _ next c.loop.invariant)

pub returns : goal.returns
returns c =
    finished _ _ _ (none_asked c.args.announced c.args.second Year (100 - c.loop.counter) c.loop.lo c.args.window.now.to (omega arith)) c.loop.invariant
