-- What words ask for: the values, in the order in which they are checked, and the order that they make.
use Rattle.std.specs.Prelude.{ℕ, ◌+◌, ◌-◌, ◌==◌, Bool, false, true, nat_lt, if◌then◌else◌, List, [], Option, Some, None, option_map, unwrap_or, Result, Ok, Err, slice_get, slice_index_or, ok_or}
use Rattle.std.specs.Option.{option_and_then}
use Rattle.signal_base.specs.declared.station.Station.{Station}
use Rattle.definitions.specs.time.Calendar.{century_minutes}
use Rattle.formats.specs.declared.option.OptionName.{OptionName}
use Rattle.formats.specs.declared.option.OptionName.TheVariants as value
use Rattle.formats.specs.declared.words.Asked.{Asked}
use Rattle.formats.specs.declared.words.Command.{Command}
use Rattle.formats.specs.declared.words.Command.TheVariants as command
use Rattle.formats.specs.declared.words.TheConstants.{DEFAULT_COUNT, DEFAULT_READERS, DEFAULT_SECONDS, DEFAULT_STEP, DEFAULT_WORKERS}
use Rattle.formats.specs.declared.words.ValueKind.{ValueKind}
use Rattle.formats.specs.declared.words.ValueKind.TheVariants.{Number, Minute}
use Rattle.formats.specs.declared.words.Values.{Values}
use Rattle.formats.specs.declared.words.WordFault.{WordFault}
use Rattle.formats.specs.declared.words.WordFault.TheVariants.{Usage, BadNumber, BadMinute, EmptyRange}
use Rattle.formats.specs.Options.{option_text}
use Rattle.formats.specs.Words.{Line, certificate_option, line_of, value_behind}
use Rattle.formats.specs.WordValues.{kind_of, passing, read_as, suits}

-- what a check comes to: a value, or the first fault
abbrev pub Checked : Type 0 → Type 0
Checked A = Result A WordFault

-- the next check, of what the check before it found
abbrev pub and_then : {A B : Type 0} → Checked A → (A → Checked B) → Checked B
and_then (Ok x) next = next x
and_then (Err fault) next = Err fault

infixl 10 ◌>>=◌
abbrev pub ◌>>=◌ : {A B : Type 0} → Checked A → (A → Checked B) → Checked B
check >>= next = and_then check next

-- NUMBER of a trial and MINUTE of an encode stand at a place, all other values behind their options
abbrev pub is_placed : Command → OptionName → Bool
is_placed command.Trial value.Number = true
is_placed (command.Encode station) value.Minute = true
is_placed other name = false

-- the text of a value, if it is given
abbrev pub text_in : OptionName → Line → Option (List ℕ)
text_in name line = if is_placed line.command name then slice_get line.places 0 else value_behind (option_text name) line.pairs

-- the value that a text says, if it suits the command
abbrev pub said_by : Command → OptionName → List ℕ → Option ℕ
said_by command name text = option_and_then (passing (suits command name)) (read_as (kind_of name) text)

-- the fault of a bad value
abbrev pub bad : ValueKind → OptionName → WordFault
bad (Number least most) name = BadNumber name
bad Minute name = BadMinute name

-- what comes of a text that may be given, and may say a value
abbrev pub judged : OptionName → Option (Option ℕ) → Checked (Option ℕ)
judged name None = Ok None
judged name (Some None) = Err (bad (kind_of name) name)
judged name (Some (Some n)) = Ok (Some n)

-- the value, if it is given
abbrev pub given : OptionName → Line → Checked (Option ℕ)
given name line = judged name (option_map (said_by line.command name) (text_in name line))

-- the value, or this one where none is given
abbrev pub valued : OptionName → ℕ → Line → Checked ℕ
valued name default line = given name line >>= (λ n. Ok (unwrap_or n default))

-- All values, checked in this order. NUMBER, MINUTE and `--start` have no default. The range goes to the end of the minute
-- `--to`, and comes last.
abbrev pub values_of : Line → Checked Values
values_of line =
    given value.Number line >>= (λ number.
    given value.Minute line >>= (λ minute.
    given value.Start line >>= (λ start.
    valued value.Seconds DEFAULT_SECONDS line >>= (λ seconds.
    valued value.From 0 line >>= (λ from.
    valued value.To (century_minutes - 1) line >>= (λ to.
    valued value.Workers DEFAULT_WORKERS line >>= (λ workers.
    valued value.Leap 0 line >>= (λ leap.
    valued value.Step DEFAULT_STEP line >>= (λ step.
    valued value.Count DEFAULT_COUNT line >>= (λ count.
    valued value.Readers DEFAULT_READERS line >>= (λ readers.
    if nat_lt to from then Err EmptyRange
    else Ok (record {
      number = number;
      minute = minute;
      asked = record { start = start; seconds = seconds; from = from; to = to + 1 };
      workers = workers;
      leap = leap == 1;
      step = step;
      count = count;
      readers = readers;
    }))))))))))))

-- what words ask for
pub data Order : Type 0 where
  Decode : (config : List ℕ) → Asked → (workers : ℕ) → (certificate : Option (List ℕ)) → Order
  Check : (config certificate : List ℕ) → Asked → Order
  Feed : (config : List ℕ) → Asked → (workers : ℕ) → Order
  Encode : Station → (minute : ℕ) → (leap : Bool) → Order
  Trial : (number workers : ℕ) → Order
  Follow : (config : List ℕ) → Asked → (workers step count : ℕ) → Order
  Sweep : (config : List ℕ) → Asked → (workers : ℕ) → (certificate : Option (List ℕ)) → Order
  Judge : (config certificate : List ℕ) → Asked → Order
  Board : (config queries : List ℕ) → Asked → (workers step count readers : ℕ) → Order
  Irig : (config : List ℕ) → Asked → (workers : ℕ) → Order
  IrigRead : (file : List ℕ) → Order

-- the name of a file at a place
abbrev pub file_at : ℕ → Line → List ℕ
file_at place line = slice_index_or line.places place []

-- the name of the file for a certificate, if one is asked for
abbrev pub certificate_of : Line → Option (List ℕ)
certificate_of line = value_behind certificate_option line.pairs

-- the order of a command with these values, if those are given that it can't do without
abbrev pub order_with : Command → Line → Values → Option Order
order_with command.Decode line v = Some (Decode (file_at 0 line) v.asked v.workers (certificate_of line))
order_with command.Check line v = Some (Check (file_at 0 line) (file_at 1 line) v.asked)
order_with command.Feed line v = Some (Feed (file_at 0 line) v.asked v.workers)
order_with (command.Encode station) line v = option_map (λ minute. Encode station minute v.leap) v.minute
order_with command.Trial line v = option_map (λ number. Trial number v.workers) v.number
order_with command.Follow line v = Some (Follow (file_at 0 line) v.asked v.workers v.step v.count)
order_with command.Sweep line v = Some (Sweep (file_at 0 line) v.asked v.workers (certificate_of line))
order_with command.Judge line v = Some (Judge (file_at 0 line) (file_at 1 line) v.asked)
order_with command.Board line v = Some (Board (file_at 0 line) (file_at 1 line) v.asked v.workers v.step v.count v.readers)
order_with command.Irig line v = Some (Irig (file_at 0 line) v.asked v.workers)
order_with command.IrigRead line v = Some (IrigRead (file_at 0 line))

-- The order of a line. A line has all the places of its command, so what can't be done without is given.
abbrev pub order_on : Line → Checked Order
order_on line = values_of line >>= (λ values. ok_or (order_with line.command line values) Usage)

-- the order that words with one of these commands give, or why they are refused
abbrev pub order_of : List Command → List (List ℕ) → Checked Order
order_of commands words = ok_or (line_of commands words) Usage >>= order_on
