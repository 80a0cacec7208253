-- A run that ended so has run its plan.
use Rattle.std.proofs.Common.{ap, ◌∙◌}
use Rattle.due.specs.Status.{code_of}
use Rattle.bank_words.specs.Seen.{texts_of}
use Rattle.judge_due.specs.JudgePlans.{judge_plan}
use Rattle.bank.proofs.EndingLaws.{has_run}
use Rattle.judges.proofs.ExactLaws.{judge_exactly}
use Rattle.judges.proofs.RefusalLaws.{is_no_failure}
use Rattle.judges.proofs.judge_run.judge.Goals as goal

pub returns : goal.returns
returns g c =
    let words = texts_of c.args.words.now in
    has_run (judge_plan words) is_no_failure (judge_exactly c.one_thing_is_told_of_the_certificates_of_a_sweep.ensures.one words) (g.F.Files.view c.args.files.now) (g.F.Files.view c.carry_out.new.files) c.carry_out.result c.code.result
    (c.code.ensures ∙ ap code_of c.status_after.ensures) c.carry_out.ensures.ends c.carry_out.ensures.only
