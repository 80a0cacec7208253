-- What was found due is delivered.
use Rattle.std.proofs.Common.{ℕ, List}
use Rattle.std.proofs.lemmas.Result.{IfOk-weaker}
use Rattle.due.specs.declared.heard_due.HeardDue.{HeardDue}
use Rattle.due.specs.HeardRuns.{AsksHeard, heard_plan}
use Rattle.bank_words.specs.Seen.{texts_of}
use Rattle.bank.specs.Ending.{IsFound}
use Rattle.bank.proofs.EndingLaws.{ends_over}
use Rattle.heard.specs.Asking.{asked_seen}
use Rattle.heard.specs.declared.hearing.Hearing.{Hearing}
use Rattle.heard.specs.Seen.{due_seen, kept_plan}
use Rattle.heard.proofs.program.carry_out_task.Goals as goal

pub returns-clause-ends : goal.returns-clause-ends
returns-clause-ends g c =
    let words = texts_of c.args.words.now in
    let old = g.F.Files.view c.args.files.now in
    let new = g.F.Files.view c.perform.new.files in
    let found = c.find_due-found.ensures in
    ends_over due_seen (heard_plan words) old new c.perform.result
    (c.perform.ensures.ends old
    (record {
      due = IfOk-weaker c.find_due-found.result (λ (due : HeardDue Hearing). (words : List (List ℕ)) → AsksHeard words (asked_seen c.args.ask.now) → IsFound (kept_plan words) old due) (IsFound (kept_plan words) old)
          (λ due is. is words c.requires.asks) found.due;
      failed = λ e. found.failed e words c.requires.asks;
      same_counts = found.same_counts;
      only = found.only;
    }))
