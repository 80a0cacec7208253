-- What is due for words that are refused is written, or a front of it.
use Rattle.std.proofs.Common.{◌≡◌, ℕ, List, [], Ok, Err, refl}
use Rattle.formats.specs.declared.words.WordFault.{WordFault}
use Rattle.bank_files.specs.Told.{output_name}
use Rattle.bank_files.specs.Seen.{Seen, Writes}
use Rattle.bank_files.proofs.Chaining.{OnlyReads-start, SameCounts-start}
use Rattle.due.specs.declared.due.Due.TheVariants.{Refused}
use Rattle.due.specs.Orders.{word_refusal}
use Rattle.board_due.specs.declared.board_due.BoardDue.{BoardDue}
use Rattle.board_due.specs.declared.board_due.BoardDue.TheVariants.{Told}
use Rattle.board_due.specs.BoardDues.{board_due_text, board_status}
use Rattle.board_due.specs.BoardOrders.{board_order_in}
use Rattle.board_due.specs.BoardPlans.{board_plan}
use Rattle.board_due.specs.BoardRules.{Bad_words}
use Rattle.board_due.proofs.BoardOrderLaws.{bad_words_read_nothing}
use Rattle.bank.specs.declared.stop.Stop.TheVariants.{Failed}
use Rattle.bank.specs.Ending.{Ends, IsFound}
use Rattle.bank.proofs.EndingLaws.{due_not_written, due_written, found_at_once, one_written}

-- what is due for them
abbrev pub refused : WordFault → BoardDue
refused fault = Told (Refused (word_refusal fault))

module _ (old new : Seen) (words : List (List ℕ)) (fault : WordFault) where
  found : board_order_in words ≡ Err fault → IsFound (board_plan words) old (refused fault)
  found asks =
      found_at_once (board_plan words) old (refused fault) (Bad_words fault asks refl)
      (λ input file. bad_words_read_nothing words (λ _. []) fault input file asks)

  pub words_refused : {E : Type 0} → board_order_in words ≡ Err fault → Writes {E = E} output_name old new (board_due_text (refused fault)) (Ok tt)
      → Ends (board_plan words) old new (Ok (board_status (refused fault)))
  words_refused {E} asks written =
      due_written (board_plan words) {E = E} old old new (refused fault) (found asks) (OnlyReads-start old) (SameCounts-start old)
      (one_written old new (board_due_text (refused fault)) (Ok tt) written)

  pub words_not_refused : {E : Type 0} (e : E) → board_order_in words ≡ Err fault → Writes output_name old new (board_due_text (refused fault)) (Err e)
      → Ends (board_plan words) old new (Err Failed)
  words_not_refused e asks written =
      due_not_written (board_plan words) old old new (refused fault) (found asks) (OnlyReads-start old) (SameCounts-start old) e
      (one_written old new (board_due_text (refused fault)) (Err e) written)
