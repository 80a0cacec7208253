-- The rules of what a run owes for its words and for the bytes that it reads; and which files it reads.
use Rattle.std.specs.Prelude.{ℕ, ◌≡◌, Bool, List, Some, Ok, Err}
use Rattle.signal_base.specs.declared.station.Station.{Station}
use Rattle.signal_base.specs.declared.window.Window.{Window}
use Rattle.definitions.specs.declared.answer.Answer.{Answer}
use Rattle.definitions.specs.declared.answer.Answer.TheVariants as answers
use Rattle.definitions.specs.heard.Logs.{Records}
use Rattle.formats.specs.declared.words.WordFault.{WordFault}
use Rattle.formats.specs.declared.refusal.Refusal.{Refusal}
use Rattle.formats.specs.Orders.{Order}
use Rattle.formats.specs.Orders.Order.{Encode, Trial}
use Rattle.bank_config.specs.Configuration.{PlainConfig}
use Rattle.trial_log.specs.Trials.{trial_receivers, trial_sequence, trial_station}
use Rattle.due.specs.declared.due.Due.{Due}
use Rattle.due.specs.declared.due.Due.TheVariants as dues
use Rattle.due.specs.Banks.{Bank, IsBankAnswer, bank_of, duts_of, window_of}
use Rattle.due.specs.Inputs.{Contents, Input}
use Rattle.due.specs.Loads.{IsBankLoaded, IsBankRead, IsBankRefused}
use Rattle.due.specs.Orders.{BankOrder, Sentences, Wanted, bank_order, order_in, word_refusal}
use Rattle.due.specs.Trials.{trial_asked, trial_bank}

-- how an answer is reported: by its report, or where it is decided and sentences are wanted, by these
abbrev pub reported : Wanted → Window → Bank → Answer → Due
reported Sentences window bank (answers.Decided cost q next) = dues.Feed window q
reported wanted window bank answer = dues.Report window answer (duts_of window bank answer)

-- this is what is asked about a bank
abbrev pub IsReported : BankOrder → Bank → Due → Type 0
IsReported o bank due =
    let window = window_of o.asked bank.receivers in
    (answer : Answer) × IsBankAnswer window bank answer × (due ≡ reported o.wanted window bank answer)

-- the words ask this of a bank
abbrev pub AsksBank : List (List ℕ) → BankOrder → Type 0
AsksBank words o = (order : Order) × (order_in words ≡ Ok order) × (bank_order order ≡ Some o)

-- This is due, by the first rule that fits: refused words; a listing; a trial; and of a bank the refusal of its configuration or of
-- the first bad log, and what is reported of the answer.
pub data IsDue (words : List (List ℕ)) (contents : Contents) (due : Due) : Type 0 where
  Bad_words : (fault : WordFault) → order_in words ≡ Err fault → due ≡ dues.Refused (word_refusal fault) → IsDue words contents due
  Listed : (station : Station) → (minute : ℕ) → (announced : Bool) → order_in words ≡ Ok (Encode station minute announced)
      → due ≡ dues.Listing station minute announced → IsDue words contents due
  Tried : (number workers : ℕ) → order_in words ≡ Ok (Trial number workers)
      → (answer : Answer) → IsBankAnswer (window_of trial_asked (trial_bank number).receivers) (trial_bank number) answer
      → due ≡ dues.Trial number (trial_station number) (trial_receivers number) (trial_sequence number) answer → IsDue words contents due
  Bad_bank : (o : BankOrder) → AsksBank words o
      → (refusal : Refusal) → IsBankRefused contents refusal → due ≡ dues.Refused refusal → IsDue words contents due
  Answered : (o : BankOrder) → AsksBank words o
      → (config : PlainConfig) → (records : List Records) → IsBankLoaded contents config records
      → IsReported o (bank_of config records) due → IsDue words contents due

-- the run reads this file as this input, for what is asked about a bank
abbrev pub IsRead : List (List ℕ) → Contents → Input → List ℕ → Type 0
IsRead words contents input file = (o : BankOrder) × AsksBank words o × IsBankRead o.config contents input file
