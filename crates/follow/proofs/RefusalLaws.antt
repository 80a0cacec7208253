-- What is due for words that are refused is written, or a front of it.
use Rattle.std.proofs.Common.{◌≡◌, ℕ, List, [], Ok, Err, refl}
use Rattle.formats.specs.declared.words.WordFault.{WordFault}
use Rattle.bank_files.specs.Told.{output_name}
use Rattle.bank_files.specs.Seen.{Seen, Writes}
use Rattle.bank_files.proofs.Chaining.{OnlyReads-start, SameCounts-start}
use Rattle.due.specs.declared.due.Due.TheVariants.{Refused}
use Rattle.due.specs.Orders.{word_refusal}
use Rattle.follow_due.specs.declared.follow_due.FollowDue.{FollowDue}
use Rattle.follow_due.specs.declared.follow_due.FollowDue.TheVariants.{Told}
use Rattle.follow_due.specs.FollowDues.{follow_status, follow_text}
use Rattle.follow_due.specs.FollowOrders.{follow_order_in}
use Rattle.follow_due.specs.FollowPlans.{follow_plan}
use Rattle.follow_due.specs.FollowRules.{Bad_words}
use Rattle.follow_due.proofs.OrderLaws.{bad_words_read_nothing}
use Rattle.bank.specs.declared.stop.Stop.TheVariants.{Failed}
use Rattle.bank.specs.Ending.{Ends, IsFound}
use Rattle.bank.proofs.EndingLaws.{due_not_written, due_written, found_at_once, one_written}

-- what is due for them
abbrev pub refused : WordFault → FollowDue
refused fault = Told (Refused (word_refusal fault))

module _ (old new : Seen) (words : List (List ℕ)) (fault : WordFault) where
  found : follow_order_in words ≡ Err fault → IsFound (follow_plan words) old (refused fault)
  found asks =
      found_at_once (follow_plan words) old (refused fault) (Bad_words fault asks refl)
      (λ input file. bad_words_read_nothing words (λ _. []) fault input file asks)

  pub words_refused : {E : Type 0} → follow_order_in words ≡ Err fault → Writes {E = E} output_name old new (follow_text (refused fault)) (Ok tt)
      → Ends (follow_plan words) old new (Ok (follow_status (refused fault)))
  words_refused {E} asks written =
      due_written (follow_plan words) {E = E} old old new (refused fault) (found asks) (OnlyReads-start old) (SameCounts-start old)
      (one_written old new (follow_text (refused fault)) (Ok tt) written)

  pub words_not_refused : {E : Type 0} (e : E) → follow_order_in words ≡ Err fault → Writes output_name old new (follow_text (refused fault)) (Err e)
      → Ends (follow_plan words) old new (Err Failed)
  words_not_refused e asks written =
      due_not_written (follow_plan words) old old new (refused fault) (found asks) (OnlyReads-start old) (SameCounts-start old) e
      (one_written old new (follow_text (refused fault)) (Err e) written)
