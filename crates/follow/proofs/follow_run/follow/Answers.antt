-- A run that ended so has run its plan.
use Rattle.std.proofs.Common.{ap, ◌∙◌}
use Rattle.follow_due.specs.FollowPlans.{follow_plan}
use Rattle.due.specs.Status.{code_of}
use Rattle.bank_words.specs.Seen.{texts_of}
use Rattle.bank.proofs.EndingLaws.{has_run}
use Rattle.follow.proofs.ExactLaws.{follow_exactly}
use Rattle.follow.proofs.FollowedLaws.{is_no_follow_failure}
use Rattle.follow.proofs.follow_run.follow.Goals as goal

pub returns : goal.returns
returns g c =
    let words = texts_of c.args.words.now in
    has_run (follow_plan words) is_no_follow_failure (follow_exactly words) (g.F.Files.view c.args.files.now) (g.F.Files.view c.carry_out.new.files) c.carry_out.result c.code.result
    (c.code.ensures ∙ ap code_of c.status_after.ensures) c.carry_out.ensures.ends c.carry_out.ensures.only
