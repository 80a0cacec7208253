-- The call that runs the words promises all that is due for their plan.
use Rattle.std.proofs.Common.{sym, subst}
use Rattle.bank_words.specs.Seen.{texts_of}
use Rattle.bank.specs.Ending.{HasRun}
use Rattle.program.specs.declared.family.Returning.{Returning}
use Rattle.program.specs.Families.{returning_plan}
use Rattle.program.proofs.running.answer.Goals as goal

pub returns-in-OfRun : goal.returns-in-OfRun
returns-in-OfRun g c =
    subst (λ (commands : Returning). HasRun (returning_plan commands (texts_of c.args.words.now)) (g.F.Files.view c.args.files.now) (g.F.Files.view c.run.new.files) c.run.result)
    (sym c.in-OfRun.is) c.run.ensures

pub returns-in-OfFrames : goal.returns-in-OfFrames
returns-in-OfFrames g c =
    subst (λ (commands : Returning). HasRun (returning_plan commands (texts_of c.args.words.now)) (g.F.Files.view c.args.files.now) (g.F.Files.view c.irig.new.files) c.irig.result)
    (sym c.in-OfFrames.is) c.irig.ensures

pub returns-in-OfFollow : goal.returns-in-OfFollow
returns-in-OfFollow g c =
    subst (λ (commands : Returning). HasRun (returning_plan commands (texts_of c.args.words.now)) (g.F.Files.view c.args.files.now) (g.F.Files.view c.follow.new.files) c.follow.result)
    (sym c.in-OfFollow.is) c.follow.ensures

pub returns-in-OfSweep : goal.returns-in-OfSweep
returns-in-OfSweep g c =
    subst (λ (commands : Returning). HasRun (returning_plan commands (texts_of c.args.words.now)) (g.F.Files.view c.args.files.now) (g.F.Files.view c.sweep.new.files) c.sweep.result)
    (sym c.in-OfSweep.is) c.sweep.ensures

pub returns-in-OfCheck : goal.returns-in-OfCheck
returns-in-OfCheck g c =
    subst (λ (commands : Returning). HasRun (returning_plan commands (texts_of c.args.words.now)) (g.F.Files.view c.args.files.now) (g.F.Files.view c.check.new.files) c.check.result)
    (sym c.in-OfCheck.is) c.check.ensures

pub returns-in-OfJudge : goal.returns-in-OfJudge
returns-in-OfJudge g c =
    subst (λ (commands : Returning). HasRun (returning_plan commands (texts_of c.args.words.now)) (g.F.Files.view c.args.files.now) (g.F.Files.view c.judge.new.files) c.judge.result)
    (sym c.in-OfJudge.is) c.judge.ensures
