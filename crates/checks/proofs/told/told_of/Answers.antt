-- The fault that there is, by the law of outcomes; or what is certified.
use Rattle.std.proofs.Common.{None, Some, refl, ap, subst, ◌∙◌}
use Rattle.field_tables.specs.Grids.{grid_costs}
use Rattle.formats.specs.Refusals.CertificateFault.{TooLarge}
use Rattle.certificates.specs.Judged.{line_fault}
use Rattle.certificate_judge.specs.declared.outcome.Outcome.{Outcome}
use Rattle.certificate_judge.specs.declared.outcome.Outcome.TheVariants as outcome
use Rattle.certificate_judge.specs.Outcomes.{IsOutcome}
use Rattle.due.specs.declared.check_due.CertificateFault.TheVariants as told
use Rattle.due.specs.Banks.{costs_in}
use Rattle.due.specs.CheckDues.{fault_of}
use Rattle.checks.proofs.ToldLaws.{bad_told, no_fault, some_fault}
use Rattle.checks.proofs.told.told_of.Goals as goal

pub returns-in-TooLarge-clause-checked : goal.returns-in-TooLarge-clause-checked
returns-in-TooLarge-clause-checked c = λ bank bytes same have is.
    let window = c.args.window.now in
    let costs = grid_costs c.args.grids.now in
    let agree = c.grids_agree_with_their_costs.ensures window c.args.grids.now (costs_in window bank) c.requires.grids have in
    bad_told window costs c.args.ceiling bytes bank agree same TooLarge told.TooLarge refl
    (c.bytes_have_one_outcome.ensures.bad costs window c.args.ceiling bytes outcome.TooLarge TooLarge
    (subst (λ (o : Outcome). IsOutcome costs window c.args.ceiling bytes o) c.in-TooLarge.is is) refl)

pub returns-in-Refused-clause-checked : goal.returns-in-Refused-clause-checked
returns-in-Refused-clause-checked c = λ bank bytes same have is.
    let window = c.args.window.now in
    let costs = grid_costs c.args.grids.now in
    let r = c.in-Refused in
    let agree = c.grids_agree_with_their_costs.ensures window c.args.grids.now (costs_in window bank) c.requires.grids have in
    bad_told window costs c.args.ceiling bytes bank agree same (line_fault r.line r.fault) c.line_fault.result c.line_fault.ensures
    (c.bytes_have_one_outcome.ensures.bad costs window c.args.ceiling bytes (outcome.Refused r.line r.fault) (line_fault r.line r.fault)
    (subst (λ (o : Outcome). IsOutcome costs window c.args.ceiling bytes o) r.is is) refl)

pub returns-in-Some-clause-checked : goal.returns-in-Some-clause-checked
returns-in-Some-clause-checked c = λ bank bytes same have is.
    let window = c.args.window.now in
    let costs = grid_costs c.args.grids.now in
    let j = c.in-Judged in
    let fault = c.in-Some.fault in
    let agree = c.grids_agree_with_their_costs.ensures window c.args.grids.now (costs_in window bank) c.requires.grids have in
    bad_told window costs c.args.ceiling bytes bank agree same (fault_of fault) fault refl
    (c.bytes_have_one_outcome.ensures.bad costs window c.args.ceiling bytes (outcome.Judged j.verdict j.first j.second) (fault_of fault)
    (subst (λ (o : Outcome). IsOutcome costs window c.args.ceiling bytes o) j.is is)
    (some_fault c.verdict_fault.result fault _ c.verdict_fault.ensures c.in-Some.is))

pub certified-requires-clause-good : goal.certified-requires-clause-good
certified-requires-clause-good c =
    let window = c.args.window.now in
    let costs = grid_costs c.args.grids.now in
    let j = c.in-Judged in
    let (bytes, is) = c.requires.outcome in (
      bytes,
      c.bytes_have_one_outcome.ensures.good costs window c.args.ceiling bytes (outcome.Judged j.verdict j.first j.second)
          (subst (λ (o : Outcome). IsOutcome costs window c.args.ceiling bytes o) j.is is)
          (no_fault c.verdict_fault.result _ c.verdict_fault.ensures c.in-None.is),
    )

pub returns-in-None-clause-checked : goal.returns-in-None-clause-checked
returns-in-None-clause-checked c = λ bank bytes same have is.
    let window = c.args.window.now in
    let costs = grid_costs c.args.grids.now in
    let j = c.in-Judged in
    c.certified.ensures.checked bank bytes same have
    (c.bytes_have_one_outcome.ensures.good costs window c.args.ceiling bytes (outcome.Judged j.verdict j.first j.second)
    (subst (λ (o : Outcome). IsOutcome costs window c.args.ceiling bytes o) j.is is)
    (no_fault c.verdict_fault.result _ c.verdict_fault.ensures c.in-None.is))
