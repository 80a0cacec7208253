-- What is due for words that are refused is written, or a front of it; and no status of `judge` is one of a failure.
use Rattle.std.proofs.Common.{◌≡◌, ℕ, List, [], Ok, Err, refl, arith}
use Rattle.formats.specs.declared.words.WordFault.{WordFault}
use Rattle.bank_files.specs.Told.{output_name}
use Rattle.bank_files.specs.Seen.{Seen, Writes}
use Rattle.bank_files.proofs.Chaining.{OnlyReads-start, SameCounts-start}
use Rattle.due.specs.declared.due.Due.TheVariants.{Refused}
use Rattle.due.specs.Orders.{word_refusal}
use Rattle.sweep_due.specs.JudgeRules.JudgeDue.{Certified, NotCertified}
use Rattle.judge_due.specs.JudgeDues.{Bad_words}
use Rattle.judge_due.specs.JudgeOrders.{judge_order_in}
use Rattle.judge_due.specs.JudgePlans.{judge_plan}
use Rattle.judge_due.specs.JudgeTexts.{JudgeOwed, owed_status, owed_text}
use Rattle.judge_due.specs.JudgeTexts.JudgeOwed.{Judged, Told}
use Rattle.judge_due.proofs.JudgeOrderLaws.{bad_words_read_nothing}
use Rattle.bank.specs.declared.stop.Stop.TheVariants.{Failed}
use Rattle.bank.specs.Ending.{Ends, IsFound}
use Rattle.bank.proofs.EndingLaws.{IsNoFailure, due_not_written, due_written, found_at_once, one_written}
use Rattle.bank.proofs.RunLaws as runs

-- what is due for them
abbrev pub refused : WordFault → JudgeOwed
refused fault = Told (Refused (word_refusal fault))

module _ (old new : Seen) (words : List (List ℕ)) (fault : WordFault) where
  found : judge_order_in words ≡ Err fault → IsFound (judge_plan words) old (refused fault)
  found asks =
      found_at_once (judge_plan words) old (refused fault) (Bad_words fault asks refl)
      (λ input file. bad_words_read_nothing words (λ _. []) fault input file asks)

  pub words_refused : {E : Type 0} → judge_order_in words ≡ Err fault → Writes {E = E} output_name old new (owed_text (refused fault)) (Ok tt)
      → Ends (judge_plan words) old new (Ok (owed_status (refused fault)))
  words_refused {E} asks written =
      due_written (judge_plan words) {E = E} old old new (refused fault) (found asks) (OnlyReads-start old) (SameCounts-start old)
      (one_written old new (owed_text (refused fault)) (Ok tt) written)

  pub words_not_refused : {E : Type 0} (e : E) → judge_order_in words ≡ Err fault → Writes output_name old new (owed_text (refused fault)) (Err e)
      → Ends (judge_plan words) old new (Err Failed)
  words_not_refused e asks written =
      due_not_written (judge_plan words) old old new (refused fault) (found asks) (OnlyReads-start old) (SameCounts-start old) e
      (one_written old new (owed_text (refused fault)) (Err e) written)

pub is_no_failure : (owed : JudgeOwed) → IsNoFailure (owed_status owed)
is_no_failure (Told due) = runs.is_no_failure due
is_no_failure (Judged (Certified window answer duts)) = (λ six. omega (arith, six), λ seven. omega (arith, seven))
is_no_failure (Judged (NotCertified offset fault)) = (λ six. omega (arith, six), λ seven. omega (arith, seven))
