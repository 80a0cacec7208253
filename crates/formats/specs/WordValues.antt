-- The values of the command line: what their texts may be, and which value a text says.
use Rattle.std.specs.Prelude.{ℕ, zero, suc, ◌+◌, ◌-◌, Bool, true, ◌&&◌, nat_le, nat_lt, if◌then◌else◌, List, Option, Some, None, bytes_eq}
use Rattle.std.specs.Option.{option_and_then}
use Rattle.std.specs.Fmt.{decimal}
use Rattle.std.specs.Str.Parse.{digits_value}
use Rattle.signal_base.specs.declared.limits.TheConstants.{LEAST_SECONDS, MOST_SECONDS, START_LIMIT}
use Rattle.definitions.specs.time.Calendar.{century_minutes}
use Rattle.definitions.specs.time.Spelling.{minute_text}
use Rattle.definitions.specs.codes.Allowed.{encoded_year}
use Rattle.formats.specs.declared.option.OptionName.{OptionName}
use Rattle.formats.specs.declared.option.OptionName.TheVariants as value
use Rattle.formats.specs.declared.words.Command.{Command}
use Rattle.formats.specs.declared.words.Command.TheVariants.{Encode}
use Rattle.formats.specs.declared.words.ValueKind.{ValueKind}
use Rattle.formats.specs.declared.words.ValueKind.TheVariants.{Number, Minute}
use Rattle.formats.specs.declared.words.TheConstants.{LEAST_COUNT, LEAST_READERS, LEAST_STEP, LEAST_WORKERS, MOST_COUNT, MOST_NUMBER, MOST_READERS, MOST_STEP, MOST_WORKERS}

-- what the text of each value may be
abbrev pub kind_of : OptionName → ValueKind
kind_of value.Number = Number 0 MOST_NUMBER
kind_of value.Minute = Minute
kind_of value.Start = Number 0 (START_LIMIT - 1)
kind_of value.Seconds = Number LEAST_SECONDS MOST_SECONDS
kind_of value.From = Minute
kind_of value.To = Minute
kind_of value.Workers = Number LEAST_WORKERS MOST_WORKERS
kind_of value.Leap = Number 0 1
kind_of value.Step = Number LEAST_STEP MOST_STEP
kind_of value.Count = Number LEAST_COUNT MOST_COUNT
kind_of value.Readers = Number LEAST_READERS MOST_READERS

-- the number, if it passes a test
abbrev pub passing : (ℕ → Bool) → ℕ → Option ℕ
passing test n = if test n then Some n else None

-- the number whose decimal text this is
unfoldable pub number_of : List ℕ → Option ℕ
number_of text = passing (λ n. bytes_eq text (decimal n)) (digits_value 10 text)

-- the first of so many numbers, from this one on, that passes a test
unfoldable pub first_from : ℕ → ℕ → (ℕ → Bool) → Option ℕ
first_from n zero test = None
first_from n (suc more) test = if test n then Some n else first_from (n + 1) more test

-- the minute of the century whose text this is
unfoldable pub minute_of : List ℕ → Option ℕ
minute_of text = first_from 0 century_minutes (λ t. bytes_eq text (minute_text t))

-- the value that a text of this kind says
abbrev pub read_as : ValueKind → List ℕ → Option ℕ
read_as (Number least most) text = option_and_then (passing (λ n. nat_le least n && nat_le n most)) (number_of text)
read_as Minute text = minute_of text

-- A minute that a station is to send is one whose year it can encode. All other values are as good for one command as
-- for another.
abbrev pub suits : Command → OptionName → ℕ → Bool
suits (Encode station) value.Minute t = nat_lt (encoded_year station t) 2100
suits command name n = true
