-- What is due for words that are refused is written, or a front of it.
use Rattle.std.proofs.Common.{◌≡◌, ℕ, List, [], Ok, Err, refl, ap}
use Rattle.formats.specs.declared.words.WordFault.{WordFault}
use Rattle.formats.specs.declared.words.WordFault.TheVariants.{BadMinute, BadNumber, EmptyRange, Usage}
use Rattle.bank_files.specs.Told.{output_name}
use Rattle.bank_files.specs.Seen.{Seen, Writes}
use Rattle.bank_files.proofs.Chaining.{OnlyReads-start, SameCounts-start}
use Rattle.due.specs.declared.due.Due.TheVariants.{Refused}
use Rattle.due.specs.declared.status.Status.TheVariants.{BadWords}
use Rattle.due.specs.CertificateRules.{Not_asked, name_asked}
use Rattle.due.specs.Dues.{status_of, text_of}
use Rattle.due.specs.Orders.{order_in, word_refusal}
use Rattle.due.specs.Owed.{Owed, told_alone}
use Rattle.due.specs.Plans.{run_plan}
use Rattle.due.specs.Rules.{Bad_words}
use Rattle.due.proofs.FileLaws.{refused_reads_nothing}
use Rattle.bank.specs.declared.stop.Stop.TheVariants.{Failed}
use Rattle.bank.specs.Ending.{Ends, IsFound}
use Rattle.bank.proofs.EndingLaws.{due_not_written, due_written, found_at_once, one_written}

module _ (old new : Seen) (words : List (List ℕ)) (fault : WordFault) where
  abbrev refusal : Owed
  refusal = told_alone (Refused (word_refusal fault))

  found : order_in words ≡ Err fault → IsFound (run_plan words) old refusal
  found asks =
      found_at_once (run_plan words) old refusal (record { due_is = Bad_words fault asks refl; certificate_is = Not_asked (ap name_asked asks) refl })
      (λ input file. refused_reads_nothing words (λ _. []) fault input file asks)

  pub words_refused : {E : Type 0} → order_in words ≡ Err fault → Writes {E = E} output_name old new (text_of (Refused (word_refusal fault))) (Ok tt)
      → Ends (run_plan words) old new (Ok (status_of (Refused (word_refusal fault))))
  words_refused {E} asks written =
      due_written (run_plan words) {E = E} old old new refusal (found asks) (OnlyReads-start old) (SameCounts-start old)
      (one_written old new (text_of (Refused (word_refusal fault))) (Ok tt) written)

  pub words_not_refused : {E : Type 0} (e : E) → order_in words ≡ Err fault → Writes output_name old new (text_of (Refused (word_refusal fault))) (Err e)
      → Ends (run_plan words) old new (Err Failed)
  words_not_refused e asks written =
      due_not_written (run_plan words) old old new refusal (found asks) (OnlyReads-start old) (SameCounts-start old) e
      (one_written old new (text_of (Refused (word_refusal fault))) (Err e) written)

-- the status of a refusal of words
pub words_status : (fault : WordFault) → status_of (Refused (word_refusal fault)) ≡ BadWords
words_status Usage = refl
words_status (BadNumber option) = refl
words_status (BadMinute option) = refl
words_status EmptyRange = refl
