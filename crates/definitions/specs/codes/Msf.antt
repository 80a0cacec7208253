-- MSF: what each second of a minute may carry (NPL's MSF 60 kHz time and date code).
use Rattle.std.specs.Prelude.{ℕ, ◌<◌, ◌≤◌, ◌+◌, ◌*◌, ◌-◌, ◌%◌, ◌==◌, ◌&&◌, nat_lt, if◌then◌else◌, List, [], ◌∷◌}
use Rattle.definitions.specs.declared.msf.MsfFacts.{MsfFacts}
use Rattle.definitions.specs.codes.Vocabulary.{only, free, no_second, Field, Weighed, weights_from, carried_bit, ones, is_within}

-- each fact is in its range
pub record AreInRange (f : MsfFacts) : Type 0 where
  pub minute : f.minute < 60
  pub hour : f.hour < 24
  pub day : (1 ≤ f.day) × (f.day ≤ 31)
  pub weekday : f.weekday < 7
  pub month : (1 ≤ f.month) × (f.month ≤ 12)
  pub year : f.year < 100

-- the symbol that marks second 0
abbrev pub minute_marker : ℕ
minute_marker = 4

-- the last two digits of the year
abbrev pub year_weights : List Weighed
year_weights = weights_from 17 (80 ∷ 40 ∷ 20 ∷ 10 ∷ 8 ∷ 4 ∷ 2 ∷ 1 ∷ [])

abbrev pub month_weights : List Weighed
month_weights = weights_from 25 (10 ∷ 8 ∷ 4 ∷ 2 ∷ 1 ∷ [])

abbrev pub day_weights : List Weighed
day_weights = weights_from 30 (20 ∷ 10 ∷ 8 ∷ 4 ∷ 2 ∷ 1 ∷ [])

-- Sunday is 0
abbrev pub weekday_weights : List Weighed
weekday_weights = weights_from 36 (4 ∷ 2 ∷ 1 ∷ [])

abbrev pub hour_weights : List Weighed
hour_weights = weights_from 39 (20 ∷ 10 ∷ 8 ∷ 4 ∷ 2 ∷ 1 ∷ [])

abbrev pub minute_weights : List Weighed
minute_weights = weights_from 45 (40 ∷ 20 ∷ 10 ∷ 8 ∷ 4 ∷ 2 ∷ 1 ∷ [])

-- the fields of a minute
abbrev pub msf_fields : MsfFacts → List Field
msf_fields f =
    (year_weights, f.year) ∷ (month_weights, f.month) ∷ (day_weights, f.day) ∷ (weekday_weights, f.weekday)
    ∷ (hour_weights, f.hour) ∷ (minute_weights, f.minute) ∷ []

-- Odd parity: the number of ones, the parity bit included, is odd.
abbrev pub odd_parity : ℕ → ℕ
odd_parity n = (n + 1) % 2

-- bit A of a code second: a field's bit, and 1 from second 53 to 58
abbrev pub bit_a : MsfFacts → ℕ → ℕ
bit_a f s = if is_within 53 58 s then 1 else carried_bit (msf_fields f) s

-- bit B of a code second: the change of summer time, odd parity of the year, of month and day, of the weekday, of hour
-- and minute, and summer time
abbrev pub bit_b : MsfFacts → ℕ → ℕ
bit_b f s =
    if s == 53 then (if f.change then 1 else 0)
    else if s == 54 then odd_parity (ones year_weights f.year)
    else if s == 55 then odd_parity (ones month_weights f.month + ones day_weights f.day)
    else if s == 56 then odd_parity (ones weekday_weights f.weekday)
    else if s == 57 then odd_parity (ones hour_weights f.hour + ones minute_weights f.minute)
    else if s == 58 then (if f.summer then 1 else 0)
    else 0

-- the set of symbols that a code second may carry: A and B as the number 2 A + B
abbrev pub code_second : MsfFacts → ℕ → ℕ
code_second f s =
    if s == 0 then only minute_marker
    else if is_within 1 16 s then free
    else only (2 * bit_a f s + bit_b f s)

-- The set of symbols that a second may carry. A minute of 61 seconds has one more after second 16, with both bits 0.
abbrev pub msf_second : MsfFacts → ℕ → ℕ
msf_second f s =
    if nat_lt s (if f.long then 61 else 60)
    then (
    if f.long && (s == 17) then only 0
    else if f.long && nat_lt 17 s then code_second f (s - 1)
    else code_second f s
    )
    else no_second
