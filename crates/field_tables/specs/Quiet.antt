-- Minutes and days on which no announced sequence is legal that begins there, and minutes in which nothing tells of a leap second.
use Rattle.std.specs.Prelude.{ℕ, ◌≡◌, ◌+◌, ◌*◌, ◌<◌, ◌≤◌, true, List, length, slice_index_or}
use Rattle.signal_base.specs.declared.window.Window.{Window}
use Rattle.definitions.specs.declared.sequence.Sequence.{Sequence}
use Rattle.definitions.specs.sequences.Walks.{IsLegal}
use Rattle.definitions.specs.time.Calendar.{minutes_per_day}
use Rattle.walk_costs.specs.Walks.{IsRegularWalk, ShowsAnnouncement, last_minute}
use Rattle.field_tables.specs.Minutes.{no_walks}
use Rattle.field_tables.specs.Sums.{Sums}

-- no announced sequence is legal that begins in the minutes from lo up to, and without, hi
abbrev pub NoneAnnounced : Window → ℕ → ℕ → Type 0
NoneAnnounced window lo hi = (q : Sequence) → q.announced ≡ true → lo ≤ q.first → q.first < hi → ¬ (IsLegal window q)

-- none that begins on the day
abbrev pub IsQuiet : Window → ℕ → Type 0
IsQuiet window day = NoneAnnounced window (day * minutes_per_day) ((day + 1) * minutes_per_day)

-- none that begins from a day on before the minute that is kept for it
abbrev pub AreQuiet : Window → List ℕ → Type 0
AreQuiet window loud = (day : ℕ) → NoneAnnounced window (day * minutes_per_day) (slice_index_or loud day 0)

-- no station shows the announcement in a walk from the minute lo on up to `last`
abbrev pub NeverTell : Sums → ℕ → ℕ → Type 0
NeverTell sums lo last = (j p t0 : ℕ) → j < length sums.stations → p < 60 → lo ≤ t0
    → last_minute (slice_index_or sums.stations j no_walks) p t0 ≤ last → IsRegularWalk (slice_index_or sums.stations j no_walks) p t0
    → ¬ (ShowsAnnouncement (slice_index_or sums.stations j no_walks) (record { first = t0; second = p; announced = true }))
