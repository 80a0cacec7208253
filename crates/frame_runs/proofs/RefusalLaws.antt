-- What is due for words that are refused is written, or a front of it.
use Rattle.std.proofs.Common.{◌≡◌, ℕ, List, [], Ok, Err, refl}
use Rattle.formats.specs.declared.words.WordFault.{WordFault}
use Rattle.bank_files.specs.Told.{output_name}
use Rattle.bank_files.specs.Seen.{Seen, Writes}
use Rattle.bank_files.proofs.Chaining.{OnlyReads-start, SameCounts-start}
use Rattle.due.specs.declared.due.Due.TheVariants.{Refused}
use Rattle.due.specs.declared.frame_due.FrameDue.{FrameDue}
use Rattle.due.specs.declared.frame_due.FrameDue.TheVariants.{Told}
use Rattle.due.specs.FrameDues.{frame_due_text, frame_status}
use Rattle.due.specs.FrameOrders.{frame_order_in}
use Rattle.due.specs.FrameRules.{Bad_words}
use Rattle.due.specs.Orders.{word_refusal}
use Rattle.due.specs.Plans.{frame_plan}
use Rattle.due.proofs.FrameFileLaws.{bad_words_read_nothing}
use Rattle.bank.specs.declared.stop.Stop.TheVariants.{Failed}
use Rattle.bank.specs.Ending.{Ends, IsFound}
use Rattle.bank.proofs.EndingLaws.{due_not_written, due_written, found_at_once, one_written}

-- what is due for them
abbrev pub refused : WordFault → FrameDue
refused fault = Told (Refused (word_refusal fault))

module _ (old new : Seen) (words : List (List ℕ)) (fault : WordFault) where
  found : frame_order_in words ≡ Err fault → IsFound (frame_plan words) old (refused fault)
  found asks =
      found_at_once (frame_plan words) old (refused fault) (Bad_words fault asks refl)
      (λ input file. bad_words_read_nothing words (λ _. []) fault input file asks)

  pub words_refused : {E : Type 0} → frame_order_in words ≡ Err fault → Writes {E = E} output_name old new (frame_due_text (refused fault)) (Ok tt)
      → Ends (frame_plan words) old new (Ok (frame_status (refused fault)))
  words_refused {E} asks written =
      due_written (frame_plan words) {E = E} old old new (refused fault) (found asks) (OnlyReads-start old) (SameCounts-start old)
      (one_written old new (frame_due_text (refused fault)) (Ok tt) written)

  pub words_not_refused : {E : Type 0} (e : E) → frame_order_in words ≡ Err fault → Writes output_name old new (frame_due_text (refused fault)) (Err e)
      → Ends (frame_plan words) old new (Err Failed)
  words_not_refused e asks written =
      due_not_written (frame_plan words) old old new (refused fault) (found asks) (OnlyReads-start old) (SameCounts-start old) e
      (one_written old new (frame_due_text (refused fault)) (Err e) written)
