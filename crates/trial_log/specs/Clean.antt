-- Clean logs: what a receiver without noise or delay hears of a sequence, from its first second on.
use Rattle.std.specs.Prelude.{ℕ, zero, suc, ◌*◌, ◌/◌, ◌%◌, ◌<◌, ◌≤◌, Bool, true, false, if◌then◌else◌, List, [], ◌∷◌, ◌++◌, find, unwrap_or, slice_index_or}
use Rattle.std.specs.Fmt.{decimal}
use Rattle.std.specs.List.{flat_map, range_with_len}
use Rattle.signal_base.specs.declared.station.Station.{Station}
use Rattle.signal_base.specs.declared.station.Station.TheVariants.{Wwvb}
use Rattle.signal_base.specs.Mask.{has_bit}
use Rattle.signal_base.specs.Waveform.{waveform}
use Rattle.definitions.specs.declared.level.Level.{Level}
use Rattle.definitions.specs.declared.level.Level.TheVariants.{High, Low, Unknown}
use Rattle.definitions.specs.declared.sequence.Sequence.{Sequence}
use Rattle.definitions.specs.time.Calendar.{century_minutes, minute_length}
use Rattle.definitions.specs.codes.Allowed.{encoded_year}
use Rattle.definitions.specs.codes.Vocabulary.{is_one_of}
use Rattle.definitions.specs.heard.Logs.{Records}
use Rattle.definitions.specs.sequences.Walks.{IsSequence, place_at, set_at}
use Rattle.formats.specs.Bytes.{space, line}
use Rattle.formats.specs.LogLines.{letter}

-- the station can send n seconds of the sequence
pub record CanBeSent (station : Station) (q : Sequence) (n : ℕ) : Type 0 where
  pub sequence : IsSequence q
  pub second : q.second < minute_length q.announced q.first
  pub century : (k : ℕ) → k < n → (place_at q k).0 < century_minutes
  pub encoded : (k : ℕ) → k < n → encoded_year station (place_at q k).0 ≤ 2099

-- the least symbol of a set, which is 0 where the second isn't scored
abbrev pub least_symbol : ℕ → ℕ
least_symbol set = unwrap_or (find (has_bit set) (range_with_len 0 8)) 0

-- the seconds by which WWVB tells that DUT1 isn't negative
abbrev pub tells_sign : Station → ℕ → Bool
tells_sign Wwvb second = is_one_of (36 ∷ 38 ∷ []) second
tells_sign station second = false

-- Of the symbols that a second may carry a clean log has the least, so that MSF tells a DUT1 of 0. WWVB tells it by the
-- sign 1 0 1 before its tenths.
abbrev pub clean_symbol : Station → ℕ → ℕ → ℕ
clean_symbol station second set = if tells_sign station second then 1 else least_symbol set

-- the symbol in slot k
abbrev pub symbol_at : Station → Sequence → ℕ → ℕ
symbol_at station q k = clean_symbol station (place_at q k).1 (set_at station q k)

-- the level of a carrier that is low, or not
abbrev pub level_when : Bool → Level
level_when true = Low
level_when false = High

-- the level at millisecond m, in tenth m % 1000 / 100 of slot m / 1000
abbrev pub clean_level : Station → Sequence → ℕ → Level
clean_level station q m = level_when (slice_index_or (waveform station (symbol_at station q (m / 1000))) (m % 1000 / 100) false)

abbrev pub is_same_level : Level → Level → Bool
is_same_level High High = true
is_same_level Low Low = true
is_same_level Unknown Unknown = true
is_same_level before after = false

-- a record of the level from millisecond m on, where it is another than before
abbrev pub new_record : ℕ → Level → Level → Records
new_record m before after = if is_same_level before after then [] else (m, after) ∷ []

-- the level before millisecond m; nothing is known before 0
abbrev pub level_before : (ℕ → Level) → ℕ → Level
level_before level zero = Unknown
level_before level (suc m) = level m

-- the records of the levels of the first n milliseconds: one at 0, and one wherever the level changes
unfoldable pub changes : (ℕ → Level) → ℕ → Records
changes level zero = []
changes level (suc m) = changes level m ++ new_record m (level_before level m) (level m)

-- what is heard of n seconds, and a record that closes the log
abbrev pub clean_log : Station → Sequence → ℕ → Records
clean_log station q n = changes (clean_level station q) (1000 * n) ++ (1000 * n, High) ∷ []

-- a record's line
abbrev pub record_line : ℕ × Level → List ℕ
record_line r = line (decimal r.0 ++ space ∷ letter r.1 ∷ [])

-- the text of a log
abbrev pub log_text : Records → List ℕ
log_text records = flat_map record_line records
