-- A run that ended so has run its plan.
use Rattle.std.proofs.Common.{ap, ◌∙◌}
use Rattle.due.specs.Status.{code_of}
use Rattle.bank_words.specs.Seen.{texts_of}
use Rattle.check_due.specs.CheckPlans.{check_plan}
use Rattle.bank.proofs.EndingLaws.{has_run}
use Rattle.checks.proofs.ExactLaws.{check_exactly}
use Rattle.checks.proofs.RefusalLaws.{is_no_failure}
use Rattle.checks.proofs.check_run.check.Goals as goal

pub returns : goal.returns
returns g c =
    let words = texts_of c.args.words.now in
    has_run (check_plan words) is_no_failure (check_exactly c.one_thing_is_told_of_a_certificate.ensures.one words) (g.F.Files.view c.args.files.now) (g.F.Files.view c.carry_out.new.files)
    c.carry_out.result c.code.result (c.code.ensures ∙ ap code_of c.status_after.ensures) c.carry_out.ensures.ends c.carry_out.ensures.only
