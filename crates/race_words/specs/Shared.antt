-- The running words under the events: the rule of the table, and what each step tells its seat.
use Rattle.std.specs.Prelude.{◌≡◌, ℕ, ◌<◌, ◌≤◌, List, length, slice_index, All}
use Rattle.atomic_table.specs.Table.{State, Me, Step}
use Rattle.race_words.specs.declared.view.View.{View}
use Rattle.race_words.specs.Views.{after_draw, after_first_part, after_second_part, after_limit, after_limits}
use Rattle.race_words.specs.Events.{RaceState, Event, Leads}

abbrev pub Words : Type 0
Words = State (Unit {0}) View

abbrev pub Mine : Type 0
Mine = Me (Unit {0}) View

-- the table's three words and its views, as a race
abbrev pub race_of : Words → RaceState
race_of s = record { drawn = slice_index s.words 0; least = slice_index s.words 1; second = slice_index s.words 2; views = s.views }

-- the rule: some list of events led here from the start
abbrev pub IsRunning : ℕ → Words → Type 0
IsRunning workers s = (length s.words ≡ 3) × ((es : List Event) × Leads workers es (race_of s))

-- the number found was drawn, and it is above all that this seat drew before
abbrev pub Draws : Step (Unit {0}) → Mine → ℕ → Mine → Type 0
Draws st m found m' = (m'.0 ≡ after_draw found m.0) × (m'.1 ≡ m.1) × All (λ x. x < found) m.0.drawn

-- the least word was lowered to the key, from one that was not above `low`
abbrev pub Offers : Step (Unit {0}) → Mine → ℕ → Mine → Type 0
Offers st m found m' = (m'.0 ≡ after_first_part st.first found m.0) × (m'.1 ≡ m.1) × (found ≤ m.0.low)

-- the second word was lowered to what the seat carried
abbrev pub Settles : Step (Unit {0}) → Mine → ℕ → Mine → Type 0
Settles st m found m' = (m'.0 ≡ after_second_part m.0) × (m'.1 ≡ m.1)

-- the second word was read, and it is not above `floor`
abbrev pub Looks : Step (Unit {0}) → Mine → ℕ → Mine → Type 0
Looks st m found m' = (m'.0 ≡ after_limit found m.0) × (m'.1 ≡ m.1) × (found ≤ m.0.floor)

-- the same by one read that counts as more than one look: as many more as this tells of what is found
abbrev pub LooksOften : (ℕ → ℕ) → Step (Unit {0}) → Mine → ℕ → Mine → Type 0
LooksOften often st m found m' = (m'.0 ≡ after_limits (often found) found m.0) × (m'.1 ≡ m.1) × (found ≤ m.0.floor)
