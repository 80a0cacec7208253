-- How a day and a minute are written, as ISO 8601 has it: 2024-06-10, 2024-06-10T06:16Z. Texts are lists of bytes.
use Rattle.std.specs.Prelude.{ℕ, ◌+◌, ◌/◌, ◌%◌, List, [], ◌∷◌, ◌++◌}
use Rattle.definitions.specs.declared.day.Day.{Day}
use Rattle.definitions.specs.declared.fields.Fields.{Fields}
use Rattle.definitions.specs.time.Calendar.{utc_fields}

-- the bytes of the characters 0, -, :, T and Z
abbrev pub digit_zero : ℕ
digit_zero = 48

abbrev pub dash : ℕ
dash = 45

abbrev pub colon : ℕ
colon = 58

abbrev pub letter_t : ℕ
letter_t = 84

abbrev pub letter_z : ℕ
letter_z = 90

-- the last two digits of a number
abbrev pub two_digits : ℕ → List ℕ
two_digits n = (digit_zero + n / 10 % 10) ∷ (digit_zero + n % 10) ∷ []

-- YYYY-MM-DD
abbrev pub date_text : ℕ → ℕ → ℕ → List ℕ
date_text year month day =
    two_digits (year / 100) ++ two_digits year ++ dash ∷ two_digits month ++ dash ∷ two_digits day

-- the date of a day
abbrev pub day_text : Day → List ℕ
day_text d = date_text d.year d.month d.day

-- YYYY-MM-DDThh:mmZ, in UTC
abbrev pub fields_text : Fields → List ℕ
fields_text f =
    date_text f.year f.month f.day ++ letter_t ∷ two_digits f.hour ++ colon ∷ two_digits f.minute ++ letter_z ∷ []

-- the text of a minute, counted from 2000-01-01T00:00Z
abbrev pub minute_text : ℕ → List ℕ
minute_text t = fields_text (utc_fields t)
