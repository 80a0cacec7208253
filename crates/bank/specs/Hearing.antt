-- A bank as the rules see it, and the grids of its stations.
use Rattle.std.specs.Prelude.{ℕ, suc, ◌≡◌, ◌+◌, ◌*◌, ◌==◌, nat_lt, ◌≤◌, Bool, if◌then◌else◌, List, [], ◌∷◌, All, drop, filter, length, map, sum_by, take, min, Option, Some, None}
use Rattle.std.specs.List.{flat_map, list_any}
use Rattle.std.specs.List.Sorted.{IsNonDecreasingBy}
use Rattle.signal_base.specs.declared.limits.TheConstants.{GREATEST_COST, MOST_RECEIVERS}
use Rattle.signal_base.specs.declared.station.Station.{Station}
use Rattle.signal_base.specs.declared.station.Station.TheVariants.{Dcf77, Msf, Wwvb, Jjy}
use Rattle.signal_base.specs.declared.station.Stations.{Stations}
use Rattle.signal_base.specs.declared.window.Window.{Window}
use Rattle.signal_base.specs.Limits.{IsPriced, IsTuned}
use Rattle.signal_base.specs.Number.{number_of}
use Rattle.definitions.specs.codes.Allowed.{has_station}
use Rattle.definitions.specs.heard.Costs.{Costs}
use Rattle.definitions.specs.heard.Logs.{Records}
use Rattle.definitions.specs.heard.Receivers.{Reception, receptions}
use Rattle.align.specs.Receivers.{receivers}
use Rattle.symbol_cost.specs.Grid.{Grid, HasCosts}
use Rattle.field_tables.specs.Grids.{AreGrids, HaveCosts}
use Rattle.due.specs.Banks.{Bank as PlainBank, bit_where, costs_in, first_times}
use Rattle.bank.specs.declared.hearing.Bank.{Bank}

-- the bank that is scored
abbrev pub bank_seen : Bank → PlainBank
bank_seen b =
    record {
      receivers = receivers b.stations.items (receptions b.tunings.items b.logs.items);
      table = b.table;
      ceiling = b.ceiling;
    }

-- its numbers are in their ranges, and its lists have one entry for each receiver, in the order of their stations
pub record IsBank (b : Bank) : Type 0 where
  pub some_receiver : 1 ≤ length b.stations.items
  pub few_receivers : length b.stations.items ≤ MOST_RECEIVERS
  pub tunings : length b.tunings.items ≡ length b.stations.items
  pub logs : length b.logs.items ≡ length b.stations.items
  pub tuned : All IsTuned b.tunings.items
  pub priced : IsPriced b.table
  pub ceiling : b.ceiling ≤ GREATEST_COST
  pub in_order : IsNonDecreasingBy number_of b.stations.items

-- the times of the logs' first records
abbrev pub times_of : List Records → List ℕ
times_of logs = flat_map first_times logs

-- the lesser of a time and those of a log's first record, as far as there are any
abbrev pub earlier : Option ℕ → Records → Option ℕ
earlier first [] = first
earlier None (r ∷ rs) = Some r.0
earlier (Some first) (r ∷ rs) = Some (min first r.0)

-- a bit for each station that is among these
abbrev pub is_among : List Station → Station → Bool
is_among stations station = list_any (λ s. number_of s == number_of station) stations

abbrev pub stations_among : List Station → Stations
stations_among stations =
    record {
      mask = bit_where (is_among stations Dcf77) 1 + bit_where (is_among stations Msf) 2
          + bit_where (is_among stations Wwvb) 4 + bit_where (is_among stations Jjy) 8;
    }

-- how many receivers listen to a station, and how many to those before it
abbrev pub count_of : Station → List Station → ℕ
count_of station [] = 0
count_of station (s ∷ ss) = if number_of s == number_of station then suc (count_of station ss) else count_of station ss

abbrev pub count_before : Station → List Station → ℕ
count_before station [] = 0
count_before station (s ∷ ss) = if nat_lt (number_of s) (number_of station) then suc (count_before station ss) else count_before station ss

-- the part of a list of which the receivers of a station are, where it has one entry for each receiver
abbrev pub part_of : {X : Type 0} → Station → List Station → List X → List X
part_of station stations xs = take (count_of station stations) (drop (count_before station stations) xs)

-- what the receivers of a station heard
abbrev pub heard_in : Station → Bank → List Reception
heard_in station b = receptions (part_of station b.stations.items b.tunings.items) (part_of station b.stations.items b.logs.items)

-- Those of some stations that are in the window have a grid each, of the window's slots and of these costs, and the grids
-- are made from no more than n receivers.
pub record AreGridsOf (window : Window) (costs : Costs) (stations : List Station) (n : ℕ) (grids : List Grid) : Type 0 where
  pub stations_are : map (λ g. g.station) grids ≡ filter (has_station window.stations) stations
  pub slots : All (λ g. length g.rows ≡ window.seconds) grids
  pub costs_are : All (λ g. HasCosts g g.station window.seconds (costs g.station)) grids
  pub few : sum_by (λ g. g.receivers) grids ≤ n

-- each grid is made from the receivers of its station
abbrev pub AreOfBank : Bank → List Grid → Type 0
AreOfBank b grids = All (λ g. g.receivers ≡ count_of g.station b.stations.items) grids

-- the grids of a bank's window: one for each of its stations, with what symbols cost in it
pub record AreBankGrids (b : Bank) (window : Window) (grids : List Grid) : Type 0 where
  pub are_grids : AreGrids window grids
  pub costs_are : HaveCosts window grids (costs_in window (bank_seen b))
  pub of_bank : AreOfBank b grids

-- the window that starts so many seconds later, with the same phase
abbrev pub later_window : Window → ℕ → Window
later_window window by = record window { start = window.start + 1000 * by }

-- a grid was moved to that window: where it had the costs of the one, it has those of the other, and all else is as before
pub record IsMoved (b : Bank) (window : Window) (by : ℕ) (old new : Grid) : Type 0 where
  pub station_is : new.station ≡ old.station
  pub receivers_are : new.receivers ≡ old.receivers
  pub slots_are : length new.rows ≡ length old.rows
  pub costs_are : (n : ℕ) → HasCosts old old.station n (costs_in window (bank_seen b) old.station)
      → HasCosts new old.station n (costs_in (later_window window by) (bank_seen b) old.station)
