-- What was found due is delivered.
use Rattle.std.proofs.Common.{ℕ, List}
use Rattle.std.proofs.lemmas.Result.{IfOk-weaker}
use Rattle.board_due.specs.declared.board_due.BoardDue.{BoardDue}
use Rattle.board_due.specs.BoardPlans.{board_plan}
use Rattle.bank_words.specs.Seen.{texts_of}
use Rattle.bank.specs.Ending.{IsFound}
use Rattle.board.specs.Tasks.{Asks}
use Rattle.board.proofs.board_run.carry_out_task.Goals as goal

pub returns-clause-ends : goal.returns-clause-ends
returns-clause-ends g c =
    let words = texts_of c.args.words.now in
    let old = g.F.Files.view c.args.files.now in
    let found = c.find_due-found.ensures in
    c.perform.ensures.ends old
    (record {
      due = IfOk-weaker c.find_due-found.result (λ (due : BoardDue). (words : List (List ℕ)) → Asks words c.args.task.now → IsFound (board_plan words) old due)
          (IsFound (board_plan words) old) (λ due is. is words c.requires.asks) found.due;
      failed = λ e. found.failed e words c.requires.asks;
      same_counts = found.same_counts;
      only = found.only;
    })
