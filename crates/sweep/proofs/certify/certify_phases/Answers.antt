-- What is kept is delivered, and it is what is owed for the bank.
use Rattle.std.proofs.Common.{List, sym, subst}
use Rattle.std.proofs.lemmas.Result.{err_from_is_err_and}
use Rattle.definitions.specs.declared.sequence.Sequence.{Sequence}
use Rattle.field_tables.specs.Scored.{costs_of}
use Rattle.due.specs.Banks.{costs_in}
use Rattle.bank.specs.Hearing.{bank_seen}
use Rattle.sweep.specs.declared.kept.Kept.{Kept}
use Rattle.sweep.specs.Keeping.{AreKept, IsKeptAt}
use Rattle.sweep.proofs.CertifiedLaws.{delivered, not_delivered}
use Rattle.sweep.proofs.KeptLaws.{all_ready, are_apart, only_these, swept_through}
use Rattle.sweep.proofs.certify.certify_phases.Goals as goal

pub report_of-requires-clause-searched : goal.report_of-requires-clause-searched
report_of-requires-clause-searched g c =
    let window = c.args.window.now in
    let bank = bank_seen c.args.bank.now in
    let name = c.args.certify.now.name.now in
    let are = subst (λ (ks : List Kept). AreKept window bank name ks) (sym c.as_slice.ensures.value) c.in_ok-kept.ensures.kept in
    swept_through window bank name c.as_slice.result.now c.standing_of-standing.result are (c.standing_of-standing.ensures.searched window bank name are.each)

pub deliver_kept-requires-clause-ready : goal.deliver_kept-requires-clause-ready
deliver_kept-requires-clause-ready g c =
    let window = c.args.window.now in
    let bank = bank_seen c.args.bank.now in
    let name = c.args.certify.now.name.now in
    let are = subst (λ (ks : List Kept). AreKept window bank name ks) (sym c.as_slice-2.ensures.value) c.in_ok-kept.ensures.kept in
    all_ready window bank name c.args.list.now c.as_slice-2.result.now c.requires.items c.requires.bank.ceiling are.each

pub deliver_kept-requires-clause-apart : goal.deliver_kept-requires-clause-apart
deliver_kept-requires-clause-apart g c =
    let window = c.args.window.now in
    let bank = bank_seen c.args.bank.now in
    let name = c.args.certify.now.name.now in
    let are = subst (λ (ks : List Kept). AreKept window bank name ks) (sym c.as_slice-2.ensures.value) c.in_ok-kept.ensures.kept in
    are_apart window bank name c.requires.certify.name c.as_slice-2.result.now are

pub returns-in_err-deliver_kept-clause-ends : goal.returns-in_err-deliver_kept-clause-ends
returns-in_err-deliver_kept-clause-ends g c =
    let window = c.args.window.now in
    let bank = bank_seen c.args.bank.now in
    let name = c.args.certify.now.name.now in
    let kept = c.as_slice-2.result.now in
    let are = subst (λ (ks : List Kept). AreKept window bank name ks) (sym c.as_slice-2.ensures.value) c.in_ok-kept.ensures.kept in
    let agree = λ (k : Kept) (at : IsKeptAt window bank name k). c.grids_agree_with_their_costs.ensures k.head.window k.tables.grids (costs_in k.head.window bank) at.grids at.costs in
    let alike = λ (k : Kept) (at : IsKeptAt window bank name k) (q : Sequence). c.agreeing_costs_cost_alike.ensures.cost k.head.window (costs_of k.tables) (costs_in k.head.window bank) q (agree k at) in
    let p = err_from_is_err_and c.from_residual-in_err-deliver_kept.result c.from_residual-in_err-deliver_kept.ensures.1 in
    rw (p.1, p.2)
    (not_delivered window bank name c.args.certify.now.task.workers agree alike kept are c.in_ok-due.due c.in_ok-due.ensures.reported (g.F.Files.view c.args.files.now)
    (g.F.Files.view c.deliver_kept.new.files) c.requires.window.century c.in_err-deliver_kept.ensures.ends)

pub returns-clause-ends : goal.returns-clause-ends
returns-clause-ends g c =
    let window = c.args.window.now in
    let bank = bank_seen c.args.bank.now in
    let name = c.args.certify.now.name.now in
    let kept = c.as_slice-2.result.now in
    let are = subst (λ (ks : List Kept). AreKept window bank name ks) (sym c.as_slice-2.ensures.value) c.in_ok-kept.ensures.kept in
    let agree = λ (k : Kept) (at : IsKeptAt window bank name k). c.grids_agree_with_their_costs.ensures k.head.window k.tables.grids (costs_in k.head.window bank) at.grids at.costs in
    let alike = λ (k : Kept) (at : IsKeptAt window bank name k) (q : Sequence). c.agreeing_costs_cost_alike.ensures.cost k.head.window (costs_of k.tables) (costs_in k.head.window bank) q (agree k at) in
    delivered window bank name c.args.certify.now.task.workers agree alike kept are c.in_ok-due.due c.in_ok-due.ensures.reported (g.F.Files.view c.args.files.now) (g.F.Files.view c.deliver_kept.new.files)
    c.status.result c.status.ensures c.in_ok-deliver_kept.ensures.ends

pub returns-in_err-deliver_kept-clause-only : goal.returns-in_err-deliver_kept-clause-only
returns-in_err-deliver_kept-clause-only g c =
    let window = c.args.window.now in
    let bank = bank_seen c.args.bank.now in
    let name = c.args.certify.now.name.now in
    let are = subst (λ (ks : List Kept). AreKept window bank name ks) (sym c.as_slice-2.ensures.value) c.in_ok-kept.ensures.kept in
    only_these window bank name c.as_slice-2.result.now (g.F.Files.view c.args.files.now) (g.F.Files.view c.deliver_kept.new.files) are.each c.deliver_kept.ensures.only

pub returns-clause-only : goal.returns-clause-only
returns-clause-only g c =
    let window = c.args.window.now in
    let bank = bank_seen c.args.bank.now in
    let name = c.args.certify.now.name.now in
    let are = subst (λ (ks : List Kept). AreKept window bank name ks) (sym c.as_slice-2.ensures.value) c.in_ok-kept.ensures.kept in
    only_these window bank name c.as_slice-2.result.now (g.F.Files.view c.args.files.now) (g.F.Files.view c.deliver_kept.new.files) are.each c.deliver_kept.ensures.only
