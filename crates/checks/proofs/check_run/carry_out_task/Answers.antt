-- What was found due is delivered.
use Rattle.std.proofs.Common.{ℕ, List}
use Rattle.std.proofs.lemmas.Result.{IfOk-weaker}
use Rattle.bank_words.specs.Seen.{texts_of}
use Rattle.check_due.specs.declared.check_owed.CheckOwed.{CheckOwed}
use Rattle.check_due.specs.CheckPlans.{check_plan}
use Rattle.bank.specs.Ending.{IsFound}
use Rattle.checks.specs.Tasks.{Asks}
use Rattle.checks.proofs.check_run.carry_out_task.Goals as goal

pub returns-clause-ends : goal.returns-clause-ends
returns-clause-ends g c =
    let words = texts_of c.args.words.now in
    let old = g.F.Files.view c.args.files.now in
    let found = c.find_due-found.ensures in
    c.perform.ensures.ends old
    (record {
      due = IfOk-weaker c.find_due-found.result (λ (owed : CheckOwed). (words : List (List ℕ)) → Asks words c.args.task.now → IsFound (check_plan words) old owed)
          (IsFound (check_plan words) old) (λ owed is. is words c.requires.asks) found.due;
      failed = λ e. found.failed e words c.requires.asks;
      same_counts = found.same_counts;
      only = found.only;
    })
