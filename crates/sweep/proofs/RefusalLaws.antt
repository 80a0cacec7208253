-- What is due for words that are refused is written, or a front of it.
use Rattle.std.proofs.Common.{◌≡◌, ℕ, List, [], Result, Ok, Err, refl}
use Rattle.formats.specs.declared.words.WordFault.{WordFault}
use Rattle.bank_files.specs.Told.{output_name}
use Rattle.bank_files.specs.Seen.{Seen, Writes}
use Rattle.bank_files.proofs.Chaining.{OnlyReads-start, SameCounts-start}
use Rattle.due.specs.declared.due.Due.TheVariants.{Refused}
use Rattle.due.specs.Orders.{word_refusal}
use Rattle.due.specs.Dues.{status_of, text_of}
use Rattle.sweep_due.specs.SweepOrders.{sweep_order_in}
use Rattle.sweep_due.specs.SweepCertificates.{Not_asked}
use Rattle.sweep_due.specs.SweepOwed.{SweepOwed, told_alone}
use Rattle.sweep_due.specs.SweepPlans.{sweep_plan}
use Rattle.sweep_due.specs.SweepRules.{Bad_words}
use Rattle.sweep_due.proofs.CertificatesLaws.{bad_words_ask_none}
use Rattle.sweep_due.proofs.OrderLaws.{bad_words_read_nothing}
use Rattle.bank.specs.declared.stop.Stop.TheVariants.{Failed}
use Rattle.bank.specs.Ending.{Ends, IsFound, OnlyWritesAmong}
use Rattle.bank.proofs.EndingLaws.{due_not_written, due_written, found_at_once, one_written, only_written}

-- what is owed for them
abbrev pub refused : WordFault → SweepOwed
refused fault = told_alone (Refused (word_refusal fault))

module _ (old new : Seen) (words : List (List ℕ)) (fault : WordFault) where
  found : sweep_order_in words ≡ Err fault → IsFound (sweep_plan words) old (refused fault)
  found asks =
      found_at_once (sweep_plan words) old (refused fault)
      (record { due_is = Bad_words fault asks refl; certificates_are = Not_asked (bad_words_ask_none words fault asks) refl })
      (λ input file. bad_words_read_nothing words (λ _. []) fault input file asks)

  pub words_refused : {E : Type 0} → sweep_order_in words ≡ Err fault → Writes {E = E} output_name old new (text_of (refused fault).due) (Ok tt)
      → Ends (sweep_plan words) old new (Ok (status_of (refused fault).due))
  words_refused {E} asks written =
      due_written (sweep_plan words) {E = E} old old new (refused fault) (found asks) (OnlyReads-start old) (SameCounts-start old)
      (one_written old new (text_of (refused fault).due) (Ok tt) written)

  pub words_not_refused : {E : Type 0} (e : E) → sweep_order_in words ≡ Err fault → Writes output_name old new (text_of (refused fault).due) (Err e)
      → Ends (sweep_plan words) old new (Err Failed)
  words_not_refused e asks written =
      due_not_written (sweep_plan words) old old new (refused fault) (found asks) (OnlyReads-start old) (SameCounts-start old) e
      (one_written old new (text_of (refused fault).due) (Err e) written)

  pub only_refused : {E : Type 0} → (r : Result (Unit {0}) E) → Writes output_name old new (text_of (refused fault).due) r → OnlyWritesAmong (sweep_plan words).files old new
  only_refused r written =
      only_written (sweep_plan words) old old new (refused fault) r (OnlyReads-start old) (one_written old new (text_of (refused fault).due) r written)
