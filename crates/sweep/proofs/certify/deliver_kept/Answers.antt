-- One certificate after the other, and then what is told.
use Rattle.std.proofs.Common.{sym, subst, arith}
use Rattle.std.proofs.lemmas.List.Elements.{All-get_or}
use Rattle.std.proofs.lemmas.Result.{err_from_is_err_and}
use Rattle.definitions.specs.answers.Blocks.{items}
use Rattle.certificates.specs.Validity.{limit_named}
use Rattle.field_tables.specs.Scored.{costs_of}
use Rattle.sweep.specs.Certifying.{DeliversKept, IsReady}
use Rattle.sweep.proofs.DeliverLaws.{OneWalk, apart_at, ends_here, leads_past, nothing_yet, only_at_last, only_to_here, told_last}
use Rattle.sweep.proofs.certify.deliver_kept.Goals as goal

pub loop-i-init : goal.loop-i-init
loop-i-init g c = nothing_yet c.args.workers c.args.due.now c.args.kept.now (g.F.Files.view c.args.files.now)

pub write_kept-requires-clause-ready : goal.write_kept-requires-clause-ready
write_kept-requires-clause-ready g c =
    subst (IsReady c.args.list.now) (sym c.index-kept-i.is) (All-get_or (IsReady c.args.list.now) c.args.kept.now c.loop-i.i _ (omega (arith, c.loop-i-test.true)) c.requires.ready)

pub write_kept-requires-clause-name : goal.write_kept-requires-clause-name
write_kept-requires-clause-name g c = apart_at c.args.kept.now c.loop-i.i _ c.index-kept-i.result (omega (arith, c.loop-i-test.true)) c.index-kept-i.is c.requires.apart

pub loop-i-preserved : goal.loop-i-preserved
loop-i-preserved g c =
    let k = c.index-kept-i.result in
    let one : OneWalk k = λ ls ms first second.
    c.tight_walks_are_one.ensures.one (costs_of k.tables) k.head.window (limit_named k.head.ceiling k.head.second) (items k.head.window) ls ms first.walks first.tight second.walks second.tight in
    leads_past c.args.workers c.args.due.now c.args.kept.now (g.F.Files.view c.args.files.now) c.loop-i.i _ k (g.F.Files.view c.loop-i.files) (g.F.Files.view c.write_kept.new.files)
    (omega (arith, c.loop-i-test.true)) c.index-kept-i.is c.requires.apart c.write_kept.ensures.only c.loop-i.invariant one c.in_ok-write_kept.ensures.written

pub returns-in_err-write_kept-clause-ends : goal.returns-in_err-write_kept-clause-ends
returns-in_err-write_kept-clause-ends g c =
    let p = err_from_is_err_and c.from_residual.result c.from_residual.ensures.1 in
    subst (λ r. DeliversKept c.args.kept.now c.args.workers c.args.due.now (g.F.Files.view c.args.files.now) (g.F.Files.view c.write_kept.new.files) r) (sym p.1)
    (ends_here c.args.workers c.args.due.now c.args.kept.now (g.F.Files.view c.args.files.now) c.loop-i.i _ c.index-kept-i.result (g.F.Files.view c.loop-i.files) (g.F.Files.view c.write_kept.new.files)
    (omega (arith, c.loop-i-test.true)) c.index-kept-i.is c.requires.apart c.write_kept.ensures.only c.loop-i.invariant c.in_err-write_kept.ensures.failed)

pub returns-in_err-write_kept-clause-only : goal.returns-in_err-write_kept-clause-only
returns-in_err-write_kept-clause-only g c =
    only_to_here c.args.workers c.args.due.now c.args.kept.now (g.F.Files.view c.args.files.now) c.loop-i.i _ c.index-kept-i.result (g.F.Files.view c.loop-i.files) (g.F.Files.view c.write_kept.new.files)
    (omega (arith, c.loop-i-test.true)) c.index-kept-i.is c.requires.apart c.write_kept.ensures.only c.loop-i.invariant

pub returns-clause-ends : goal.returns-clause-ends
returns-clause-ends g c =
    told_last c.args.workers c.args.due.now c.args.kept.now (g.F.Files.view c.args.files.now) c.loop-i.i (g.F.Files.view c.loop-i.files) (g.F.Files.view c.print.new.files) (omega (arith, c.loop-i-test.false)) c.loop-i.invariant
    c.print.result c.print.ensures

pub returns-clause-only : goal.returns-clause-only
returns-clause-only g c =
    only_at_last c.args.workers c.args.due.now c.args.kept.now (g.F.Files.view c.args.files.now) c.loop-i.i (g.F.Files.view c.loop-i.files) (g.F.Files.view c.print.new.files) (omega (arith, c.loop-i-test.false)) c.loop-i.invariant
    c.print.ensures.only
