-- What was found due is delivered.
use Rattle.std.proofs.Common.{ℕ, List}
use Rattle.std.proofs.lemmas.Result.{IfOk-weaker}
use Rattle.bank_words.specs.Seen.{texts_of}
use Rattle.judge_due.specs.JudgePlans.{judge_plan}
use Rattle.bank.specs.Ending.{IsFound}
use Rattle.bank.proofs.EndingLaws.{ends_over}
use Rattle.judges.specs.declared.owed.JudgeOwed.{JudgeOwed}
use Rattle.judges.specs.Seen.{kept_plan, owed_seen}
use Rattle.judges.specs.Tasks.{Asks}
use Rattle.judges.proofs.judge_run.carry_out_task.Goals as goal

pub returns-clause-ends : goal.returns-clause-ends
returns-clause-ends g c =
    let words = texts_of c.args.words.now in
    let old = g.F.Files.view c.args.files.now in
    let new = g.F.Files.view c.perform.new.files in
    let found = c.find_due-found.ensures in
    ends_over owed_seen (judge_plan words) old new c.perform.result
    (c.perform.ensures.ends old
    (record {
      due = IfOk-weaker c.find_due-found.result (λ (owed : JudgeOwed). (words : List (List ℕ)) → Asks words c.args.task.now → IsFound (kept_plan words) old owed)
          (IsFound (kept_plan words) old) (λ owed is. is words c.requires.asks) found.due;
      failed = λ e. found.failed e words c.requires.asks;
      same_counts = found.same_counts;
      only = found.only;
    }))
