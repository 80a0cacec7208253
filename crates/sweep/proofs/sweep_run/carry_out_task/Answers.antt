-- What was found due is delivered.
use Rattle.std.proofs.Common.{ℕ, List}
use Rattle.std.proofs.lemmas.Result.{IfOk-weaker}
use Rattle.due.specs.declared.due.Due.{Due}
use Rattle.sweep_due.specs.SweepOwed.{told_alone}
use Rattle.sweep_due.specs.SweepPlans.{sweep_plan}
use Rattle.bank_words.specs.Seen.{texts_of}
use Rattle.bank.specs.Ending.{IsFound, over}
use Rattle.bank.proofs.EndingLaws.{ends_over}
use Rattle.sweep.specs.Tasks.{Asks}
use Rattle.sweep.proofs.sweep_run.carry_out_task.Goals as goal

pub returns-clause-ends : goal.returns-clause-ends
returns-clause-ends g c =
    let words = texts_of c.args.words.now in
    let old = g.F.Files.view c.args.files.now in
    let found = c.find_due-found.ensures in
    ends_over told_alone (sweep_plan words) old (g.F.Files.view c.perform.new.files) c.perform.result
    (c.perform.ensures.ends old
    (record {
      due = IfOk-weaker c.find_due-found.result (λ (due : Due). (words : List (List ℕ)) → Asks words c.args.task.now → IsFound (over told_alone (sweep_plan words)) old due)
          (IsFound (over told_alone (sweep_plan words)) old) (λ due is. is words c.requires.asks) found.due;
      failed = λ e. found.failed e words c.requires.asks;
      same_counts = found.same_counts;
      only = found.only;
    }))
