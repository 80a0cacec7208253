-- A race as plain data, and the six events that change it.
use Rattle.std.specs.Prelude.{◌≡◌, ◌≢◌, ℕ, ◌+◌, ◌-◌, ◌*◌, ◌^◌, ◌<◌, ◌≤◌, min, List, [], ◌∷◌, ◌++◌, length, slice_set}
use mathlib.Core.Option.{some}
use lib.ListN.{get_elem?}
use Rattle.race_words.specs.declared.view.View.{View}
use Rattle.race_words.specs.Keys.{no_key}
use Rattle.race_words.specs.Views.{fresh_view, blank_view, after_draw, after_first_part, after_second_part, after_limit, after_split, new_view, after_join}

-- the three words, and the view of each seat in the order in which the seats were made
pub record RaceState : Type 0 where
  pub drawn : ℕ
  pub least : ℕ
  pub second : ℕ
  pub views : List View

-- one view, which has the whole share
abbrev pub start : ℕ → RaceState
start workers = record { drawn = 0; least = no_key; second = no_key; views = fresh_view workers ∷ [] }

-- What a seat does, which goes by its number
pub data Event : Type 0 where
  draws : (seat : ℕ) → Event
  -- the first part of an offer, and the second
  offers : (seat key : ℕ) → Event
  settles : (seat : ℕ) → Event
  -- it reads the second word as its limit
  looks : (seat : ℕ) → Event
  splits : (seat share : ℕ) → Event
  joins : (seat other : ℕ) → Event

-- the seat has this view, and a share of at least 1
abbrev pub HasView : RaceState → ℕ → View → Type 0
HasView r seat v = (get_elem? r.views seat ≡ some v) × (1 ≤ v.share)

abbrev pub CarriesNothing : View → Type 0
CarriesNothing v = v.carried ≡ no_key

-- the most numbers that a share may draw
abbrev pub most_drawn : ℕ → ℕ
most_drawn share = share * 2 ^ 32

-- The race after each event, where the seat has the view v: the step on a word, and the change of the view
abbrev pub race_after_draw : RaceState → ℕ → View → RaceState
race_after_draw r seat v = record r { drawn = r.drawn + 1; views = slice_set r.views seat (after_draw r.drawn v) }

abbrev pub race_after_first_part : RaceState → ℕ → ℕ → View → RaceState
race_after_first_part r seat key v = record r { least = min r.least key; views = slice_set r.views seat (after_first_part key r.least v) }

abbrev pub race_after_second_part : RaceState → ℕ → View → RaceState
race_after_second_part r seat v = record r { second = min r.second v.carried; views = slice_set r.views seat (after_second_part v) }

abbrev pub race_after_limit : RaceState → ℕ → View → RaceState
race_after_limit r seat v = record r { views = slice_set r.views seat (after_limit r.second v) }

abbrev pub race_after_split : RaceState → ℕ → ℕ → View → RaceState
race_after_split r seat share v = record r { views = slice_set r.views seat (after_split share v) ++ new_view share v ∷ [] }

abbrev pub race_after_join : RaceState → ℕ → ℕ → View → View → RaceState
race_after_join r seat other v w = record r { views = slice_set (slice_set r.views seat (after_join v w)) other blank_view }

-- what an event needs, and the race after it
abbrev pub Happens : Event → RaceState → RaceState → Type 0
Happens (draws seat) r r' = (v : View) × HasView r seat v × (length v.drawn < most_drawn v.share) × (r' ≡ race_after_draw r seat v)
Happens (offers seat key) r r' = (v : View) × HasView r seat v × CarriesNothing v × (key < no_key) × (r' ≡ race_after_first_part r seat key v)
Happens (settles seat) r r' = (v : View) × HasView r seat v × (r' ≡ race_after_second_part r seat v)
Happens (looks seat) r r' = (v : View) × HasView r seat v × (r' ≡ race_after_limit r seat v)
Happens (splits seat share) r r' =
    (v : View) × HasView r seat v × CarriesNothing v × (1 ≤ share) × (share < v.share) × (length v.drawn ≤ most_drawn (v.share - share))
    × (r' ≡ race_after_split r seat share v)
Happens (joins seat other) r r' =
    (v : View) × (w : View) × HasView r seat v × HasView r other w × (other ≢ seat) × CarriesNothing v × CarriesNothing w
    × (r' ≡ race_after_join r seat other v w)

-- the events, the latest of them first, lead from the start to this race
abbrev pub Leads : ℕ → List Event → RaceState → Type 0
Leads workers [] r = r ≡ start workers
Leads workers (e ∷ es) r' = (r : RaceState) × Leads workers es r × Happens e r r'
