-- Contents that agree on what `sweep` reads owe the same, and lead to the same files.
use Rattle.std.proofs.Common.{◌≡◌, ◌↔◌, ℕ, List, Option, Some, sym, ap}
use Rattle.formats.specs.Orders.{◌>>=◌}
use Rattle.due.specs.declared.due.Due.{Due}
use Rattle.due.specs.Inputs.{Contents, Input}
use Rattle.due.specs.Loads.{IsBankRead}
use Rattle.due.proofs.ReadLaws.{bank_read_back, bank_read_too, loaded_too, refused_too}
use Rattle.sweep_due.specs.SweepCertificates.{AreCertificatesDue, AsksCertificates, CertificatesOrder, Not_asked, Not_loaded, SweptCertificates, Written}
use Rattle.sweep_due.specs.SweepOrders.{AsksSweep, SweepOrder, of_sweep}
use Rattle.sweep_due.specs.SweepOwed.{IsSweepOwed, SweepOwed}
use Rattle.sweep_due.specs.SweepRules.{Answered, Bad_bank, Bad_words, IsSweepDue, IsSweepRead}

-- the contents agree on all that is read for the one
abbrev pub Agree : List (List ℕ) → Contents → Contents → Type 0
Agree words some other = (input : Input) (file : List ℕ) → IsSweepRead words some input file → some input ≡ other input

-- who asks for certificates asks for a sweep
abbrev pub sweep_of_order : CertificatesOrder → SweepOrder
sweep_of_order o = record { config = o.config; asked = o.asked }

pub asks_of_sweep : (words : List (List ℕ)) (o : CertificatesOrder) → AsksCertificates words o → AsksSweep words (sweep_of_order o)
asks_of_sweep words o asks = (o.workers, Some o.name, ap (λ check. check >>= of_sweep) asks)

module _ (words : List (List ℕ)) (some other : Contents) (agree : Agree words some other) where
  on_bank : (o : SweepOrder) → AsksSweep words o → (input : Input) (file : List ℕ) → IsBankRead o.config some input file → some input ≡ other input
  on_bank o asks input file read = agree input file (o, asks, read)

  due_too : (due : Due) → IsSweepDue words some due → IsSweepDue words other due
  due_too due (Bad_words fault is e) = Bad_words fault is e
  due_too due (Bad_bank o asks refusal bad e) = Bad_bank o asks refusal (refused_too o.config some other (on_bank o asks) refusal bad) e
  due_too due (Answered o asks config records loaded told) = Answered o asks config records (loaded_too o.config some other (on_bank o asks) config records loaded) told

  certificates_too : (owed : Option SweptCertificates) → AreCertificatesDue words some owed → AreCertificatesDue words other owed
  certificates_too owed (Not_asked none e) = Not_asked none e
  certificates_too owed (Not_loaded o asks refusal bad e) =
      Not_loaded o asks refusal (refused_too o.config some other (on_bank (sweep_of_order o) (asks_of_sweep words o asks)) refusal bad) e
  certificates_too owed (Written o asks config records loaded cs are e) =
      Written o asks config records (loaded_too o.config some other (on_bank (sweep_of_order o) (asks_of_sweep words o asks)) config records loaded) cs are e

  owed_too : (owed : SweepOwed) → IsSweepOwed words some owed → IsSweepOwed words other owed
  owed_too owed is = record { due_is = due_too owed.due is.due_is; certificates_are = certificates_too owed.certificates is.certificates_are }

  reads_too : (input : Input) (file : List ℕ) → IsSweepRead words some input file → IsSweepRead words other input file
  reads_too input file (o, asks, read) = (o, asks, bank_read_too o.config some other (on_bank o asks) input file read)

  reads_back : (input : Input) (file : List ℕ) → IsSweepRead words other input file → IsSweepRead words some input file
  reads_back input file (o, asks, read) = (o, asks, bank_read_back o.config some other (on_bank o asks) input file read)

-- it is the same the other way round
turned : (words : List (List ℕ)) (some other : Contents) → Agree words some other → Agree words other some
turned words some other agree input file is = sym (agree input file (reads_back words some other agree input file is))

pub same_sweep_due : (words : List (List ℕ)) (some other : Contents) → Agree words some other → (due : Due) → IsSweepDue words some due ↔ IsSweepDue words other due
same_sweep_due words some other agree due = (due_too words some other agree due, due_too words other some (turned words some other agree) due)

pub same_sweep_owed : (words : List (List ℕ)) (some other : Contents) → Agree words some other → (owed : SweepOwed) → IsSweepOwed words some owed ↔ IsSweepOwed words other owed
same_sweep_owed words some other agree owed = (owed_too words some other agree owed, owed_too words other some (turned words some other agree) owed)

pub same_sweep_reads : (words : List (List ℕ)) (some other : Contents) → Agree words some other → (input : Input) (file : List ℕ)
    → IsSweepRead words some input file ↔ IsSweepRead words other input file
same_sweep_reads words some other agree input file =
    (reads_too words some other agree input file, reads_back words some other agree input file)
