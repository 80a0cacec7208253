-- What a list of entries tells of a millisecond.
use Rattle.std.specs.Prelude.{ℕ, ◌+◌, ◌-◌, ◌*◌, ◌/◌, Bool, ◌&&◌, nat_le, nat_lt, if◌then◌else◌, Option, None, Some, List, length, drop, fold}
use Rattle.definitions.specs.declared.sequence.Sequence.{Sequence}
use Rattle.definitions.specs.time.Places.{Place, minute_of, second_of}
use Rattle.definitions.specs.sequences.Walks.{place_at}
use Rattle.board_entries.specs.declared.told.Told.{Told}
use Rattle.board_entries.specs.declared.told.Told.TheVariants.{At, Unknown}
use Rattle.board_entries.specs.declared.told.TheConstants.{LAST_ENTRIES}

-- a window of some seconds from a millisecond and a phase on, and the sequence that was decided of it
pub record PlainEntry : Type 0 where
  pub start : ℕ
  pub phase : ℕ
  pub seconds : ℕ
  pub sequence : Sequence

-- the millisecond at which the entry's first second begins
abbrev pub begin_of : PlainEntry → ℕ
begin_of e = e.start + e.phase

-- the millisecond lies in the entry's window
abbrev pub has : PlainEntry → ℕ → Bool
has e ms = nat_le (begin_of e) ms && nat_lt ms (begin_of e + 1000 * e.seconds)

-- the slot that it lies in, and the second that the sequence puts there
abbrev pub slot_of : PlainEntry → ℕ → ℕ
slot_of e ms = (ms - begin_of e) / 1000

abbrev pub place_of : PlainEntry → ℕ → Place
place_of e ms = place_at e.sequence (slot_of e ms)

-- the entries that are asked
abbrev pub last_entries : List PlainEntry → List PlainEntry
last_entries entries = drop (length entries - LAST_ENTRIES) entries

-- an entry that has the millisecond takes the place of those before it
abbrev pub or_before : ℕ → Option PlainEntry → PlainEntry → Option PlainEntry
or_before ms before e = if has e ms then Some e else before

-- the last of some entries that has the millisecond, if one has it
abbrev pub last_with : ℕ → List PlainEntry → Option PlainEntry
last_with ms entries = fold (or_before ms) None entries

abbrev pub told_by : Option PlainEntry → ℕ → Told
told_by None ms = Unknown
told_by (Some e) ms = At (minute_of (place_of e ms)) (second_of (place_of e ms))

-- what the entries tell of a millisecond: of the last 64, the last that has it tells
abbrev pub told_of : List PlainEntry → ℕ → Told
told_of entries ms = told_by (last_with ms (last_entries entries)) ms
