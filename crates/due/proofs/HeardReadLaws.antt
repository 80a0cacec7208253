-- Contents that agree on what is read show the same, and lead to the same files.
use Rattle.std.proofs.Common.{◌≡◌, ◌↔◌, ℕ, List, sym}
use Rattle.formats.specs.Heard.{Hearing}
use Rattle.due.specs.declared.heard_due.HeardDue.{HeardDue}
use Rattle.due.specs.HeardRuns.{IsHeardDue, Bad_words, Bad_bank, Answered, IsHeardRead}
use Rattle.due.specs.Inputs.{Contents, Input}
use Rattle.due.proofs.ReadLaws.{bank_read_back, bank_read_too, loaded_too, refused_too}

-- the contents agree on all that is read for the one
abbrev Agree : List (List ℕ) → Contents → Contents → Type 0
Agree words some other = (input : Input) (file : List ℕ) → IsHeardRead words some input file → some input ≡ other input

module _ (words : List (List ℕ)) (some other : Contents) (agree : Agree words some other) where
  due_too : (due : HeardDue Hearing) → IsHeardDue words some due → IsHeardDue words other due
  due_too due (Bad_words fault is e) = Bad_words fault is e
  due_too due (Bad_bank o asks refusal bad e) = Bad_bank o asks refusal (refused_too o.config some other (λ input file read. agree input file (o, asks, read)) refusal bad) e
  due_too due (Answered o asks config records loaded is) =
      Answered o asks config records (loaded_too o.config some other (λ input file read. agree input file (o, asks, read)) config records loaded) is

  reads_too : (input : Input) (file : List ℕ) → IsHeardRead words some input file → IsHeardRead words other input file
  reads_too input file (o, asks, read) = (o, asks, bank_read_too o.config some other (λ n f r. agree n f (o, asks, r)) input file read)

  reads_back : (input : Input) (file : List ℕ) → IsHeardRead words other input file → IsHeardRead words some input file
  reads_back input file (o, asks, read) = (o, asks, bank_read_back o.config some other (λ n f r. agree n f (o, asks, r)) input file read)

-- it is the same the other way round
turned : (words : List (List ℕ)) (some other : Contents) → Agree words some other → Agree words other some
turned words some other agree input file is = sym (agree input file (reads_back words some other agree input file is))

pub same_heard : (words : List (List ℕ)) (some other : Contents) → Agree words some other → (due : HeardDue Hearing) → IsHeardDue words some due ↔ IsHeardDue words other due
same_heard words some other agree due = (due_too words some other agree due, due_too words other some (turned words some other agree) due)

pub same_heard_reads : (words : List (List ℕ)) (some other : Contents) → Agree words some other → (input : Input) (file : List ℕ)
    → IsHeardRead words some input file ↔ IsHeardRead words other input file
same_heard_reads words some other agree input file =
    (reads_too words some other agree input file, reads_back words some other agree input file)
