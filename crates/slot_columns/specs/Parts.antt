-- What the slots of a window carry and cost where each minute of the walk has 60 seconds. A walk begins with second p,
-- below 60, of its minute 0, so slot k is second (p + k) mod 60 of walk minute (p + k) div 60.
-- What minutes carry is given in parts. A part has a set for each of the 60 seconds. The set without symbols, 0, is for
-- a second of which the part says nothing, and costs nothing.
use Rattle.std.specs.Prelude.{ℕ, ◌≡◌, ◌⊎◌, ◌+◌, ◌*◌, ◌/◌, ◌%◌, ◌<◌, ◌≤◌, ◌==◌, nat_lt, if◌then◌else◌, List, [], length, slice_index, slice_index_or}
use Rattle.signal_base.specs.declared.station.Station.{Station}
use Rattle.definitions.specs.time.Calendar.{minutes_per_day}
use Rattle.definitions.specs.heard.Costs.{set_cost, sum_below}
use Rattle.symbol_cost.specs.Grid.{Grid, cost_at}
use Rattle.symbol_cost.specs.declared.limits.TheConstants.{RECEIVER_COST}
use Rattle.slot_columns.specs.declared.limits.TheConstants.{SECONDS_PER_MINUTE}

-- what a set in each slot costs a station over n slots
abbrev pub sets_cost : Station → (ℕ → ℕ → ℕ) → ℕ → List ℕ → ℕ
sets_cost station costs n sets = sum_below n (λ k. set_cost station (costs k) (slice_index sets k))

-- the set of slot k where walk minute 0 carries one part, and each later minute another
abbrev pub layered_set : ℕ → List ℕ → List ℕ → ℕ → ℕ
layered_set p first rest k =
    let place = p + k in
    if nat_lt place SECONDS_PER_MINUTE then slice_index first place else slice_index rest (place % SECONDS_PER_MINUTE)

-- what these sets cost a station over n slots
abbrev pub layered_cost : Station → (ℕ → ℕ → ℕ) → ℕ → ℕ → List ℕ → List ℕ → ℕ
layered_cost station costs n p first rest = sum_below n (λ k. set_cost station (costs k) (layered_set p first rest k))

-- each second of a part carries what it does in one of two others
abbrev pub IsOfEither : List ℕ → List ℕ → List ℕ → Type 0
IsOfEither one other part =
    (s : ℕ) → s < SECONDS_PER_MINUTE → (slice_index part s ≡ slice_index one s) ⊎ (slice_index part s ≡ slice_index other s)

-- the least that such a part costs where each minute of the walk carries it
pub record IsLeastOfEither (grid : Grid) (p : ℕ) (one other : List ℕ) (cost : ℕ) : Type 0 where
  pub floor : (part : List ℕ) → IsOfEither one other part
      → cost ≤ layered_cost grid.station (cost_at grid.rows) (length grid.rows) p part part
  pub part : List ℕ
  pub of_either : IsOfEither one other part
  pub costs : cost ≡ layered_cost grid.station (cost_at grid.rows) (length grid.rows) p part part

-- the set of slot k where the first b minutes of the walk carry one part, and each later minute another
abbrev pub split_set : ℕ → ℕ → List ℕ → List ℕ → ℕ → ℕ
split_set p b before after k =
    let place = p + k in
    slice_index (if nat_lt (place / SECONDS_PER_MINUTE) b then before else after) (place % SECONDS_PER_MINUTE)

-- what these sets cost a station over n slots
abbrev pub split_cost : Station → (ℕ → ℕ → ℕ) → ℕ → ℕ → ℕ → List ℕ → List ℕ → ℕ
split_cost station costs n p b before after = sum_below n (λ k. set_cost station (costs k) (split_set p b before after k))

-- no walk costs less whose first minutes, one or more, carry one part and whose later minutes another, each of which carries in each
-- second what one of two others does. One of them costs that, if a minute of the window comes after the first
pub record IsOfChange (grid : Grid) (p : ℕ) (one other : List ℕ) (cost : ℕ) : Type 0 where
  pub minutes : ℕ
  pub some : 1 ≤ minutes
  pub within : SECONDS_PER_MINUTE * minutes ≤ p + length grid.rows
  pub before : List ℕ
  pub before_of : IsOfEither one other before
  pub after : List ℕ
  pub after_of : IsOfEither one other after
  pub costs : cost ≡ split_cost grid.station (cost_at grid.rows) (length grid.rows) p minutes before after

pub record IsLeastOfChange (grid : Grid) (p : ℕ) (one other : List ℕ) (cost : ℕ) : Type 0 where
  pub floor : (b : ℕ) (before after : List ℕ) → 1 ≤ b → SECONDS_PER_MINUTE * b ≤ p + length grid.rows
      → IsOfEither one other before → IsOfEither one other after
      → cost ≤ split_cost grid.station (cost_at grid.rows) (length grid.rows) p b before after
  pub least : SECONDS_PER_MINUTE ≤ p + length grid.rows → IsOfChange grid p one other cost

-- what a part costs in slot k if that lies in walk minute m
abbrev pub cost_in_minute : Station → (ℕ → ℕ → ℕ) → ℕ → ℕ → List ℕ → ℕ → ℕ
cost_in_minute station costs p m part k =
    let place = p + k in
    if place / SECONDS_PER_MINUTE == m then set_cost station (costs k) (slice_index part (place % SECONDS_PER_MINUTE)) else 0

-- what it costs in that walk minute alone, over n slots
abbrev pub minute_cost : Station → (ℕ → ℕ → ℕ) → ℕ → ℕ → ℕ → List ℕ → ℕ
minute_cost station costs n p m part = sum_below n (cost_in_minute station costs p m part)

-- the set of slot k where a part is given for each minute of a day, and walk minute 0 is minute u of the day
abbrev pub walk_set : List (List ℕ) → ℕ → ℕ → ℕ → ℕ
walk_set times u p k =
    let place = p + k in
    slice_index (slice_index_or times ((u + place / SECONDS_PER_MINUTE) % minutes_per_day) []) (place % SECONDS_PER_MINUTE)

-- what these sets cost a station over n slots
abbrev pub walk_cost : Station → (ℕ → ℕ → ℕ) → ℕ → ℕ → List (List ℕ) → ℕ → ℕ
walk_cost station costs n p times u = sum_below n (λ k. set_cost station (costs k) (walk_set times u p k))

-- the most that the slots of a grid can cost
abbrev pub most_cost : Grid → ℕ
most_cost grid = length grid.rows * (grid.receivers * RECEIVER_COST)

-- an entry of a row of a table, and 0 where there is none
abbrev pub entry : List (List ℕ) → ℕ → ℕ → ℕ
entry rows k x = slice_index (slice_index_or rows k []) x

-- of each first second p and each minute u of a day, the table has what the walk costs that begins there
abbrev pub AreOfWalks : List (List ℕ) → Grid → List (List ℕ) → Type 0
AreOfWalks table grid times =
    (p u : ℕ) → p < SECONDS_PER_MINUTE → u < minutes_per_day
    → entry table p u ≡ walk_cost grid.station (cost_at grid.rows) (length grid.rows) p times u

-- and none is above what the grid's slots can cost
pub record AreWalkCosts (table : List (List ℕ)) (grid : Grid) (times : List (List ℕ)) : Type 0 where
  pub each : AreOfWalks table grid times
  pub small : (p u : ℕ) → p < SECONDS_PER_MINUTE → u < minutes_per_day → entry table p u ≤ most_cost grid
