-- What walks cost at the least, at any time of day at which they may begin.
use Rattle.std.specs.Prelude.{ℕ, ◌≡◌, ◌⊎◌, ◌+◌, ◌*◌, ◌<◌, ◌≤◌, Bool, if◌then◌else◌, List, [], length, max, min, slice_index, slice_index_or}
use Rattle.signal_base.specs.declared.limits.TheConstants.{GREATEST_COST}
use Rattle.definitions.specs.time.Calendar.{minutes_per_day}
use Rattle.symbol_cost.specs.Grid.{Grid, cost_at}
use Rattle.minute_parts.specs.declared.call.TheConstants.{CALL_BEGIN, CALL_END, CALL_MINUTES}
use Rattle.minute_parts.specs.Parts.{PartTable}
use Rattle.minute_parts.specs.Walks.{later_minutes}
use Rattle.slot_columns.specs.Parts.{entry, walk_cost}
use Rattle.slot_columns.specs.declared.limits.TheConstants.{SECONDS_PER_MINUTE}
use Rattle.walk_costs.specs.declared.thirds.Split.{Split}
use Rattle.walk_costs.specs.declared.kinds.Kind.{Kind}
use Rattle.walk_costs.specs.declared.least.Begins.{Begins}
use Rattle.walk_costs.specs.declared.least.LeastTable.{LeastTable}
use Rattle.walk_costs.specs.Dates.{given_cost, minutes_to_call, most_given}
use Rattle.walk_costs.specs.Kinds.{IsBegin, end_in, kind_at, last_begin, told_of}

-- in how many minutes a walk may begin: in any of a day, or in those from which it goes over the end of a run
abbrev pub begin_count : ℕ → Bool → ℕ → ℕ
begin_count slots across p = if across then max (later_minutes slots p) 1 else minutes_per_day

-- what is told in a second of the call sign: one of three parts tells it, and the others nothing
abbrev pub IsOneOf : List ℕ → List ℕ → List ℕ → List ℕ → ℕ → Type 0
IsOneOf told one other another s = (slice_index one s ≡ slice_index told s) × (slice_index other s ≡ 0) × (slice_index another s ≡ 0)

abbrev pub IsSplit : List ℕ → List ℕ → List ℕ → List ℕ → Type 0
IsSplit told low middle high =
    (s : ℕ) → CALL_BEGIN ≤ s → s < CALL_END
    → IsOneOf told low middle high s ⊎ IsOneOf told middle low high s ⊎ IsOneOf told high low middle s

abbrev pub no_split : Split
no_split = record { low = 0; middle = 0; high = 0 }

abbrev pub split_at : List Split → ℕ → Split
split_at splits k = slice_index_or splits k no_split

-- its thirds stand among so many
pub record IsSplitIn (split : Split) (n : ℕ) : Type 0 where
  pub low : split.low < n
  pub middle : split.middle < n
  pub high : split.high < n

-- and are those of what is told
abbrev pub IsSplitOf : List ℕ → List Kind → Split → Type 0
IsSplitOf told all split = IsSplit told (kind_at all split.low).told (kind_at all split.middle).told (kind_at all split.high).told

-- where the thirds of what is told stand in the new list, which goes on where the old one ends
pub record IsSplitTo (old new : List Kind) (told : List ℕ) (split : Split) : Type 0 where
  pub within : IsSplitIn split (length new)
  pub each : IsSplitOf told new split
  pub longer : length old ≤ length new
  pub kept : (k : ℕ) → k < length old → kind_at new k ≡ kind_at old k

-- where the thirds of the first n kinds stand
pub record AreThirds (kinds all : List Kind) (splits : List Split) (n : ℕ) : Type 0 where
  pub count : length splits ≡ n
  pub within : (k : ℕ) → k < n → IsSplitIn (split_at splits k) (length all)
  pub each : (k : ℕ) → k < n → IsSplitOf (kind_at kinds k).told all (split_at splits k)

-- what the first n thirds cost in the seconds that are given up
pub record AreThirdCosts (grid : Grid) (p : ℕ) (thirds : List Kind) (rows : List (List ℕ)) (n : ℕ) : Type 0 where
  pub count : length rows ≡ n
  pub each : (h m : ℕ) → h < n → m < CALL_MINUTES → entry rows h m ≡ given_cost grid p m (kind_at thirds h).told
  pub small : (h m : ℕ) → h < n → m < CALL_MINUTES → entry rows h m ≤ most_given

-- the row of third h for second p: what it costs in the seconds that are given up
pub record IsThirdRow (grid : Grid) (thirds : List Kind) (p h : ℕ) (row : List ℕ) : Type 0 where
  pub each : (m : ℕ) → m < CALL_MINUTES → slice_index row m ≡ given_cost grid p m (kind_at thirds h).told
  pub small : (m : ℕ) → m < CALL_MINUTES → slice_index row m ≤ most_given

-- a copy of a row
abbrev pub IsRowAt : List (List ℕ) → ℕ → List ℕ → Type 0
IsRowAt rows h row = row ≡ slice_index_or rows h []

-- after how many minutes the call sign is sent, where walks go through so many: of those that go through fewer each counts alike
abbrev pub call_class : ℕ → ℕ → ℕ
call_class reached u = min (minutes_to_call u) reached

-- what the times of day cost at the least in the walks from second p that begin in the last n minutes up to one
pub record AreBegins (walks : List (List ℕ)) (p n reached : ℕ) (begins : Begins) : Type 0 where
  pub first : (u : ℕ) → IsBegin n begins.last u → begins.first ≤ call_class reached u
  pub least : (u : ℕ) → IsBegin n begins.last u → slice_index begins.costs (call_class reached u) ≤ entry walks p u
  pub small : (m : ℕ) → m < CALL_MINUTES → slice_index begins.costs m ≤ GREATEST_COST

-- no walk of kind k costs less, by the costs of its thirds
abbrev pub cost_of_split : List (List ℕ) → Split → ℕ → ℕ
cost_of_split rows split m = entry rows split.low m + entry rows split.middle m + entry rows split.high m

abbrev pub IsLeastBy : List (List ℕ) → List Kind → List Split → List (List ℕ) → ℕ → ℕ → ℕ → ℕ → ℕ → Type 0
IsLeastBy walks kinds splits rows p n reached k least =
    (u : ℕ) → IsBegin n (kind_at kinds k).last u → least ≤ entry walks p u + cost_of_split rows (split_at splits k) (call_class reached u)

-- and by what its dates tell
abbrev pub IsLeastOf : Grid → List (List ℕ) → List Kind → Bool → ℕ → ℕ → ℕ → Type 0
IsLeastOf grid walks kinds across p k least =
    (u : ℕ) → IsBegin (begin_count (length grid.rows) across p) (kind_at kinds k).last u
    → least ≤ entry walks p u + given_cost grid p (minutes_to_call u) (kind_at kinds k).told

-- what third h costs in the seconds that are given up
abbrev pub third_at : LeastTable → ℕ → ℕ → ℕ → ℕ
third_at table p h m = entry table.given.items (p * table.thirds + h) m

-- there is a cost for each run
pub record AreLeastSums (table : LeastTable) (runs : ℕ) : Type 0 where
  pub costs : length table.costs.items ≡ SECONDS_PER_MINUTE * table.kinds
  pub places : length table.places.items ≡ 2 * runs
  pub within : (q : ℕ) → q < 2 * runs → slice_index table.places.items q < table.kinds
  pub splits : length table.splits.items ≡ table.kinds
  pub thirds : (k : ℕ) → k < table.kinds → IsSplitIn (split_at table.splits.items k) table.thirds
  pub given : length table.given.items ≡ SECONDS_PER_MINUTE * table.thirds
  pub small : (p h m : ℕ) → p < SECONDS_PER_MINUTE → h < table.thirds → m < CALL_MINUTES → third_at table p h m ≤ most_given

-- that of the run i
abbrev pub place_of_run : Bool → ℕ → ℕ
place_of_run announced i = if announced then 2 * i + 1 else 2 * i

abbrev pub least_at : LeastTable → Bool → ℕ → ℕ → ℕ
least_at table announced p i = slice_index table.costs.items (p * table.kinds + slice_index table.places.items (place_of_run announced i))

-- what its dates cost in the seconds that are given up
abbrev pub split_of_run : LeastTable → Bool → ℕ → Split
split_of_run table announced i = split_at table.splits.items (slice_index table.places.items (place_of_run announced i))

abbrev pub given_at : LeastTable → Bool → ℕ → ℕ → ℕ → ℕ
given_at table announced p i m =
    third_at table p (split_of_run table announced i).low m
    + third_at table p (split_of_run table announced i).middle m
    + third_at table p (split_of_run table announced i).high m

-- no walk from second p costs less that begins in the run, with what its dates tell in the seconds that are given up
pub record AreLeast (parts : PartTable) (grid : Grid) (across : Bool) (table : LeastTable) : Type 0 where
  pub sums : AreLeastSums table (length parts.runs)
  pub each : (announced : Bool) (i p u : ℕ) → end_in across i < length parts.runs → p < SECONDS_PER_MINUTE → u < minutes_per_day
      → IsBegin (begin_count (length grid.rows) across p) (last_begin parts across i) u
      → least_at table announced p i
      ≤ walk_cost grid.station (cost_at grid.rows) (length grid.rows) p parts.times u + given_cost grid p (minutes_to_call u) (told_of parts across announced i)
  pub given : (announced : Bool) (i p m : ℕ) → end_in across i < length parts.runs → p < SECONDS_PER_MINUTE → m < CALL_MINUTES
      → given_at table announced p i m ≡ given_cost grid p m (told_of parts across announced i)
