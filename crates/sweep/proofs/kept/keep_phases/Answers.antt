-- One offset after the other.
use Rattle.std.proofs.Common.{List, sym, subst, arith}
use Rattle.bank.specs.Hearing.{bank_seen}
use Rattle.sweep.specs.declared.kept.Kept.{Kept}
use Rattle.sweep.proofs.KeptLaws.{AreKeptTo, all_kept, kept_more, none_kept}
use Rattle.sweep.proofs.kept.keep_phases.Goals as goal

pub loop-i-init : goal.loop-i-init
loop-i-init g c =
    let window = c.args.window.now in
    let bank = bank_seen c.args.bank.now in
    subst (λ (kept : List Kept). AreKeptTo window bank c.args.certify.now.name.now c.args.heard.now 0 kept) (sym c.new-kept.ensures.items)
    (none_kept window bank c.args.certify.now.name.now c.args.heard.now)

pub loop-i-preserved : goal.loop-i-preserved
loop-i-preserved g c =
    let window = c.args.window.now in
    let bank = bank_seen c.args.bank.now in
    let i = c.loop-i.i in
    rw c.in_ok-push.ensures.items
    (kept_more window bank c.args.certify.now.name.now c.args.heard.now i _ c.index-heard-i.result c.loop-i.kept.items c.in_ok-one.one (omega (arith, c.loop-i-test.true)) c.index-heard-i.is c.in_ok-one.ensures.offset
    c.in_ok-one.ensures.kept c.loop-i.invariant)

pub returns-clause-kept : goal.returns-clause-kept
returns-clause-kept g c =
    all_kept c.args.window.now (bank_seen c.args.bank.now) c.args.certify.now.name.now c.args.heard.now c.loop-i.i c.loop-i.kept.items (omega arith) c.requires.heard c.loop-i.invariant
