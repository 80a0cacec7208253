-- The feed of a decided answer: a sentence ZDA of NMEA 0183 for each minute.
use Rattle.std.specs.Prelude.{ℕ, ◌/◌, ◌%◌, List, [], ◌∷◌, ◌++◌, fold, codes, bit_xor, true}
use Rattle.std.specs.Fmt.{digit_glyph}
use Rattle.definitions.specs.declared.fields.Fields.{Fields}
use Rattle.definitions.specs.declared.sequence.Sequence.{Sequence}
use Rattle.definitions.specs.time.Calendar.{utc_fields}
use Rattle.definitions.specs.time.Spelling.{two_digits}
use Rattle.formats.specs.Bytes.{line_feed, carriage_return, dollar, asterisk, comma}
use Rattle.formats.specs.Reports.{at_minutes}

-- what stands between $ and *: the time, day, month and year in UTC, and that the local zone is UTC too
abbrev pub zda_body : Fields → List ℕ
zda_body f =
    codes "GPZDA," ++ two_digits f.hour ++ two_digits f.minute ++ codes "00.00," ++ two_digits f.day ++ comma ∷ two_digits f.month
    ++ comma ∷ two_digits (f.year / 100) ++ two_digits f.year ++ codes ",00,00"

-- the exclusive or of all bytes
abbrev pub checksum : List ℕ → ℕ
checksum bytes = fold bit_xor 0 bytes

-- a byte as two upper-case hexadecimal digits
abbrev pub hex_byte : ℕ → List ℕ
hex_byte n = digit_glyph true (n / 16 % 16) ∷ digit_glyph true (n % 16) ∷ []

-- $BODY*CHECKSUM, ended by CR and LF
abbrev pub sentence : List ℕ → List ℕ
sentence body = dollar ∷ body ++ asterisk ∷ hex_byte (checksum body) ++ carriage_return ∷ line_feed ∷ []

abbrev pub zda_sentence : ℕ → List ℕ
zda_sentence t = sentence (zda_body (utc_fields t))

-- the sentences of the minutes that begin in the first n slots
abbrev pub feed : Sequence → ℕ → List ℕ
feed q n = at_minutes (λ t k. zda_sentence t) q n
