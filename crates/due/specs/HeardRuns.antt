-- What a run owes that shows what was heard: the words of `tsheard` are those of a decode, without two of its options, and what it
-- owes is what the decode owes, but where a sequence is decided it is what was heard of it.
use Rattle.std.specs.Prelude.{ℕ, ◌≡◌, Bool, false, if◌then◌else◌, List, [], ◌∷◌, Option, Some, Ok, Err, bytes_eq, codes}
use Rattle.std.specs.List.{list_any}
use Rattle.signal_base.specs.declared.window.Window.{Window}
use Rattle.definitions.specs.declared.answer.Answer.{Answer}
use Rattle.definitions.specs.declared.answer.Answer.TheVariants as answers
use Rattle.definitions.specs.declared.sequence.Sequence.{Sequence}
use Rattle.definitions.specs.heard.Logs.{Records}
use Rattle.formats.specs.declared.option.OptionName.TheVariants.{Workers}
use Rattle.formats.specs.declared.refusal.Refusal.{Refusal}
use Rattle.formats.specs.declared.words.WordFault.{WordFault}
use Rattle.formats.specs.declared.words.WordFault.TheVariants.{Usage}
use Rattle.formats.specs.Heard.{Hearing, heard_text}
use Rattle.formats.specs.Options.{option_text}
use Rattle.formats.specs.Orders.{Checked, Order}
use Rattle.formats.specs.Words.{certificate_option}
use Rattle.bank_config.specs.Configuration.{PlainConfig}
use Rattle.due.specs.declared.due.Due.TheVariants as dues
use Rattle.due.specs.declared.heard_due.HeardDue.{HeardDue}
use Rattle.due.specs.declared.heard_due.HeardDue.TheVariants.{Told, Heard}
use Rattle.due.specs.declared.status.Status.{Status}
use Rattle.due.specs.declared.status.Status.TheVariants.{Done}
use Rattle.due.specs.Banks.{Bank, IsBankAnswer, bank_of, duts_of, window_of}
use Rattle.due.specs.Dues.{status_of, text_of}
use Rattle.due.specs.Inputs.{Contents, Input}
use Rattle.due.specs.Loads.{IsBankLoaded, IsBankRead, IsBankRefused}
use Rattle.due.specs.Orders.{BankOrder, bank_order, order_in, word_refusal}
use Rattle.due.specs.Outputs.{Output, standard_output}
use Rattle.due.specs.Plans.{Plan}

-- The options of a decode that are none here: how many workers search doesn't change what is shown, and no certificate shows it.
abbrev pub left_out : List (List ℕ)
left_out = option_text Workers ∷ certificate_option ∷ []

abbrev pub is_left_out : List ℕ → Bool
is_left_out word = list_any (bytes_eq word) left_out

-- some word is such an option
abbrev pub names_left_out : List (List ℕ) → Bool
names_left_out words = list_any is_left_out words

-- the words of the decode that is looked at
abbrev pub decode_words : List (List ℕ) → List (List ℕ)
decode_words words = codes "decode" ∷ words

-- what the words ask for, or why they are refused
abbrev pub heard_order : List (List ℕ) → Checked Order
heard_order words = if names_left_out words then Err Usage else order_in (decode_words words)

-- the words ask this of a bank
abbrev pub AsksHeard : List (List ℕ) → BankOrder → Type 0
AsksHeard words o = (order : Order) × (heard_order words ≡ Ok order) × (bank_order order ≡ Some o)

-- what is looked at of a bank, in a window, of the sequence that was decided and of what the next one costs
abbrev pub hearing_of : Window → Bank → Sequence → Option ℕ → Hearing
hearing_of window bank q next = record { receivers = bank.receivers; table = bank.table; window = window; sequence = q; next = next }

-- how an answer is shown: by what was heard, where it is decided, and else by its report
abbrev pub shown : Window → Bank → Answer → HeardDue Hearing
shown window bank (answers.Decided cost q next) = Heard (hearing_of window bank q next)
shown window bank answer = Told (dues.Report window answer (duts_of window bank answer))

-- this is what is asked about a bank
abbrev pub IsShown : BankOrder → Bank → HeardDue Hearing → Type 0
IsShown o bank due =
    let window = window_of o.asked bank.receivers in
    (answer : Answer) × IsBankAnswer window bank answer × (due ≡ shown window bank answer)

-- This is due, by the first rule that fits: refused words; the refusal of the configuration or of the first bad log; and what is
-- shown of the answer.
pub data IsHeardDue (words : List (List ℕ)) (contents : Contents) (due : HeardDue Hearing) : Type 0 where
  Bad_words : (fault : WordFault) → heard_order words ≡ Err fault → due ≡ Told (dues.Refused (word_refusal fault)) → IsHeardDue words contents due
  Bad_bank : (o : BankOrder) → AsksHeard words o
      → (refusal : Refusal) → IsBankRefused contents refusal → due ≡ Told (dues.Refused refusal) → IsHeardDue words contents due
  Answered : (o : BankOrder) → AsksHeard words o
      → (config : PlainConfig) → (records : List Records) → IsBankLoaded contents config records
      → IsShown o (bank_of config records) due → IsHeardDue words contents due

-- the run reads this file as this input, for what is asked about a bank
abbrev pub IsHeardRead : List (List ℕ) → Contents → Input → List ℕ → Type 0
IsHeardRead words contents input file = (o : BankOrder) × AsksHeard words o × IsBankRead o.config contents input file

-- the status with which a run ends that showed this
abbrev pub heard_status : {H : Type 0} → HeardDue H → Status
heard_status (Told due) = status_of due
heard_status (Heard hearing) = Done

-- the bytes that it adds to standard output
abbrev pub shown_text : HeardDue Hearing → List ℕ
shown_text (Told due) = text_of due
shown_text (Heard hearing) = heard_text hearing

-- all that a run writes that owes this
abbrev pub heard_outputs : HeardDue Hearing → List Output
heard_outputs due = record { file = standard_output; anew = false; text = shown_text due } ∷ []

-- the plan of a run for its words
abbrev pub heard_plan : List (List ℕ) → Plan (HeardDue Hearing)
heard_plan words =
    record {
      owes = IsHeardDue words;
      reads = IsHeardRead words;
      status = heard_status;
      outputs = heard_outputs;
      files = standard_output ∷ [];
      no_other = λ due file other. other;
    }
