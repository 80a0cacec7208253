-- Walks with 60 seconds in each minute that lie in one run of a station's minutes, and what they cost.
use Rattle.std.specs.Prelude.{ℕ, ◌≡◌, ◌≢◌, ◌⊎◌, ◌==◌, ◌+◌, ◌*◌, ◌/◌, ◌<◌, ◌≤◌, Bool, false, true, if◌then◌else◌, List, All, length, slice_index}
use Rattle.signal_base.specs.declared.limits.TheConstants.{MOST_RECEIVERS, MOST_SECONDS}
use Rattle.signal_base.specs.declared.station.Station.{Station}
use Rattle.definitions.specs.declared.sequence.Sequence.{Sequence}
use Rattle.definitions.specs.time.Calendar.{minute_length, minutes_per_day}
use Rattle.definitions.specs.sequences.Walks.{set_at, unannounced}
use Rattle.definitions.specs.heard.Costs.{set_cost, station_cost}
use Rattle.symbol_cost.specs.Grid.{Grid, cost_at}
use Rattle.symbol_cost.specs.declared.limits.TheConstants.{RECEIVER_COST}
use Rattle.minute_parts.specs.Parts.{IsInRun, IsPartTable, PartTable, part_where}
use Rattle.minute_parts.specs.Runs.{end_of_run, run_at}
use Rattle.minute_parts.specs.Unions.{AreRegular}
use Rattle.minute_parts.specs.Walks.{later_minutes}
use Rattle.slot_columns.specs.Layered.{LayerSums, cost_of_both, layer_cost, part_at, together}
use Rattle.slot_columns.specs.Parts.{AreWalkCosts}
use Rattle.slot_columns.specs.declared.limits.TheConstants.{SECONDS_PER_MINUTE}
use Rattle.walk_costs.specs.declared.shown.Shown.{Shown}
use Rattle.walk_costs.specs.declared.shown.Shown.TheVariants.{Never, Always, Sometimes}
use Rattle.walk_costs.specs.Dates.{AreAdded, IsAdded, kept, part_cost}
use Rattle.walk_costs.specs.declared.change.Change.{Change}
use Rattle.walk_costs.specs.declared.least.LeastWalks.{LeastWalks}
use Rattle.walk_costs.specs.declared.span.DateSpan.{DateSpan}
use Rattle.walk_costs.specs.Changes.{IsChange}
use Rattle.walk_costs.specs.Spans.{HoldsDates}
use Rattle.walk_costs.specs.Leasts.{AreLeast}

-- the parts of a station's telegrams, and what its symbols cost in the slots of a window
pub record PricedParts : Type 0 where
  pub parts : PartTable
  pub grid : Grid

abbrev pub last_minute : PricedParts → ℕ → ℕ → ℕ
last_minute w p t0 = t0 + later_minutes (length w.grid.rows) p

-- The seconds of DUT1 add no less to the walk from second p of the minute t0: this is what they add, or 0. Where the walk goes on
-- to another UTC day it is 0.
pub record MayAdd (w : PricedParts) (p t0 added : ℕ) : Type 0 where
  pub one_day : (last_minute w p t0 / minutes_per_day == t0 / minutes_per_day) ≡ true → (added ≡ 0) ⊎ (IsAdded w.grid p added)
  pub two_days : (last_minute w p t0 / minutes_per_day == t0 / minutes_per_day) ≡ false → added ≡ 0

-- the walk from second p of the minute t0 has 60 seconds in each minute, and lies in the run i
pub record IsRegularIn (w : PricedParts) (announced : Bool) (p t0 i : ℕ) : Type 0 where
  pub second : p < SECONDS_PER_MINUTE
  pub begins : IsInRun w.parts t0 i
  pub ends : last_minute w p t0 < end_of_run w.parts.runs w.parts.end i
  pub short : (t : ℕ) → t0 ≤ t → t ≤ last_minute w p t0 → minute_length announced t ≡ 60

-- each minute of the walk of an announced sequence has 60 seconds and can be encoded; they may lie in several runs
abbrev pub IsRegularWalk : PricedParts → ℕ → ℕ → Type 0
IsRegularWalk w p t0 = AreRegular true t0 (t0 + 1 + later_minutes (length w.grid.rows) p) w.parts.end

-- what the sequence costs the station
abbrev pub cost_of : PricedParts → Bool → ℕ → ℕ → ℕ
cost_of w announced p t0 =
    station_cost w.grid.station (cost_at w.grid.rows) (length w.grid.rows) (record { first = t0; second = p; announced = announced })

-- no set costs more in a slot than its receivers can make of it
abbrev pub AreSmall : Grid → Type 0
AreSmall grid = (k set : ℕ) → k < length grid.rows → set_cost grid.station (cost_at grid.rows k) set ≤ grid.receivers * RECEIVER_COST

-- the walks through a day cost this by the time of day, and DUT1 adds that
pub record ArePriced (parts : PartTable) (grid : Grid) (costs : List (List ℕ)) (more : List ℕ) : Type 0 where
  pub station : parts.station ≡ grid.station
  pub table : IsPartTable parts
  pub short : length grid.rows ≤ MOST_SECONDS
  pub few : grid.receivers ≤ MOST_RECEIVERS
  pub small : AreSmall grid
  pub walks : AreWalkCosts costs grid parts.times
  pub added : AreAdded grid more

-- what the date of a run tells of the seconds that aren't given up for the call sign
abbrev pub kept_of : PartTable → Station → Bool → ℕ → List ℕ
kept_of parts station announced i = kept station (part_where announced (run_at parts.runs i))

-- where this stands among some parts: at the run's number, or, if a leap second is announced, at the place that is noted
abbrev pub pair_of : List ℕ → Bool → ℕ → ℕ
pair_of places announced i = if announced then slice_index places i else i

-- so it is for each of the first n runs
pub record ArePairsOf (parts : PartTable) (station : Station) (announced : Bool) (all : List (List ℕ)) (places : List ℕ) (n : ℕ) : Type 0 where
  pub within : (i : ℕ) → i < n → pair_of places announced i < length all
  pub each : (i : ℕ) → i < n → part_at all (pair_of places announced i) ≡ kept_of parts station announced i

-- what the dates of all runs cost without these seconds, each of them and two together
pub record AreDateCosts (parts : PartTable) (grid : Grid) (dates : LayerSums) (places : List ℕ) : Type 0 where
  pub count : length places ≡ length parts.runs
  pub within : (announced : Bool) (i : ℕ) → i < length parts.runs → pair_of places announced i < dates.pairs
  pub each : (announced : Bool) (i p : ℕ) → i < length parts.runs → p < SECONDS_PER_MINUTE
      → layer_cost dates (pair_of places announced i) p ≡ part_cost grid p (kept_of parts grid.station announced i)
  pub both : (announced : Bool) (i j p : ℕ) → i < length parts.runs → j < length parts.runs → p < SECONDS_PER_MINUTE
      → cost_of_both dates (pair_of places announced i) (pair_of places announced j) p
      ≡ part_cost grid p (together (kept_of parts grid.station announced i) (kept_of parts grid.station announced j))

-- all that is kept of a station
pub record AreKept (parts : PartTable) (grid : Grid) (costs : List (List ℕ)) (more : List ℕ) (by_date : LayerSums) (places : List ℕ) (floors : LeastWalks)
    (changes : List Change) (spans : List DateSpan) : Type 0 where
  pub priced : ArePriced parts grid costs more
  pub dates : AreDateCosts parts grid by_date places
  pub inside : AreLeast parts grid false floors.inside
  pub across : AreLeast parts grid true floors.across
  pub over : All (IsChange parts grid) changes
  pub held : All (HoldsDates parts grid.station) spans

-- in some slot the station may carry another set than without the announcement
abbrev pub ShowsAnnouncement : PricedParts → Sequence → Type 0
ShowsAnnouncement w q =
    (k : ℕ) × (k < length w.grid.rows) × (set_at w.grid.station q k ≢ set_at w.grid.station (unannounced q) k)

-- what is told of the walks that lie in the run i and begin in second p
abbrev pub IsShown : PricedParts → Bool → ℕ → ℕ → Shown → Type 0
IsShown w announced p i Never =
    (t0 : ℕ) → IsRegularIn w announced p t0 i → ¬ (ShowsAnnouncement w (record { first = t0; second = p; announced = announced }))
IsShown w announced p i Always =
    (t0 : ℕ) → IsRegularIn w announced p t0 i → ShowsAnnouncement w (record { first = t0; second = p; announced = announced })
IsShown w announced p i Sometimes = Unit {0}
