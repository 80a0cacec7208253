-- A run that ended so has run its plan.
use Rattle.std.proofs.Common.{ap, ◌∙◌}
use Rattle.sweep_due.specs.SweepPlans.{sweep_plan}
use Rattle.due.specs.Status.{code_of}
use Rattle.bank_words.specs.Seen.{texts_of}
use Rattle.bank.proofs.EndingLaws.{has_run}
use Rattle.bank.proofs.RunLaws.{is_no_failure}
use Rattle.sweep.proofs.ExactLaws.{sweep_exactly}
use Rattle.sweep.proofs.sweep_run.sweep.Goals as goal

pub returns : goal.returns
returns g c =
    let words = texts_of c.args.words.now in
    has_run (sweep_plan words) (λ owed. is_no_failure owed.due) (sweep_exactly words) (g.F.Files.view c.args.files.now) (g.F.Files.view c.carry_out.new.files) c.carry_out.result c.code.result
    (c.code.ensures ∙ ap code_of c.status_after.ensures) c.carry_out.ensures.ends c.carry_out.ensures.only
