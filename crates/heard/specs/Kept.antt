-- What is kept of a decided window to show what was heard of it: a bank, in the order of its stations, and where the receivers of the
-- configuration stand in it.
use Rattle.std.specs.Prelude.{ℕ, ◌≡◌, ◌+◌, ◌<◌, ◌≤◌, ◌==◌, true, filter, List, [], Option, None, length, map, slice_index, slice_index_or, take}
use Rattle.std.specs.List.{flat_map, range_with_len}
use Rattle.signal_base.specs.declared.limits.TheConstants.{MOST_RECEIVERS}
use Rattle.signal_base.specs.declared.station.Station.{Station}
use Rattle.signal_base.specs.declared.station.Station.TheVariants.{Dcf77, Msf, Wwvb}
use Rattle.signal_base.specs.Number.{number_of}
use Rattle.signal_base.specs.declared.tuning.Tuning.{Tuning}
use Rattle.signal_base.specs.declared.window.Window.{Window}
use Rattle.definitions.specs.codes.Allowed.{has_station}
use Rattle.definitions.specs.declared.sequence.Sequence.{Sequence}
use Rattle.definitions.specs.heard.Receivers.{Receiver}
use Rattle.definitions.specs.sequences.Walks.{IsSequence, IsWalkable}
use Rattle.definitions.specs.sequences.Windows.{IsWindow}
use Rattle.formats.specs.declared.heard.ReceiverHeard.{ReceiverHeard}
use Rattle.formats.specs.Heard.{Hearing, Numbered, costs_of, its_receiver, receiver_heard, station_lines}
use Rattle.symbol_cost.specs.Grid.{Grid, HasCosts}
use Rattle.plain_costs.specs.Grids.{AreGrids, HaveCosts}
use Rattle.bank.specs.declared.hearing.Bank.{Bank}
use Rattle.bank.specs.Hearing.{IsBank, count_before, count_of}
use Rattle.heard.specs.declared.told.Told.{Told}
use Rattle.heard.specs.Told.{IsTold}

-- the place that receiver i of these gets in the order of their stations: behind those of the stations before its own, and behind
-- those of its own that stand before it
abbrev pub station_at : List Station → ℕ → Station
station_at ss i = slice_index_or ss i Dcf77

abbrev pub place_in : List Station → ℕ → ℕ
place_in ss i = count_before (station_at ss i) ss + count_of (station_at ss i) (take i ss)

abbrev pub places_in : List Station → List ℕ
places_in ss = map (place_in ss) (range_with_len 0 (length ss))

-- the receiver at a place of a bank
abbrev pub untuned : Tuning
untuned = record { delay = 0; weight = 0; table = None }

abbrev pub receiver_at : Bank → ℕ → Receiver
receiver_at b p =
    record {
      station = station_at b.stations.items p;
      heard = record { tuning = slice_index_or b.tunings.items p untuned; log = slice_index_or b.logs.items p [] };
    }

-- what is looked at
abbrev pub hearing_in : Bank → List ℕ → Window → Sequence → Option ℕ → Hearing
hearing_in b places window q next = record { receivers = map (receiver_at b) places; table = b.table; window = window; sequence = q; next = next }

-- receiver i of the configuration, with its number
abbrev pub numbered_at : Bank → List ℕ → ℕ → Numbered
numbered_at b places i = (i + 1, receiver_at b (slice_index places i))

-- what is told in slot k of those of some receivers that listen to a station
abbrev pub heard_among : Hearing → ℕ → Station → List Numbered → List ReceiverHeard
heard_among h k station rs = map (receiver_heard h k) (filter (λ r. number_of (its_receiver r).station == number_of station) rs)

-- the lines of slot k of those of some stations that the window has
abbrev pub stations_lines : Hearing → ℕ → List Station → List ℕ
stations_lines h k stations = flat_map (station_lines h k) (filter (has_station h.window.stations) stations)

-- the number of the value of DUT1 that the seconds of a station tell
abbrev pub told_of : Told → Station → Option ℕ
told_of told Msf = told.msf
told_of told Wwvb = told.wwvb
told_of told station = None

-- this grid has what the symbols of a station cost
pub record IsGridFor (h : Hearing) (station : Station) (g : Grid) : Type 0 where
  pub of_station : g.station ≡ station
  pub has : HasCosts g station h.window.seconds (costs_of h station)

-- its parts fit each other
pub record IsKept (b : Bank) (places : List ℕ) (grids : List Grid) (told : Told) (window : Window) (q : Sequence) : Type 0 where
  pub bank_is : IsBank b
  pub few : length places ≤ MOST_RECEIVERS
  pub within : (i : ℕ) → i < length places → slice_index places i < length b.stations.items
  pub heard : (i : ℕ) → i < length places → has_station window.stations (station_at b.stations.items (slice_index places i)) ≡ true
  pub grids_are : AreGrids window grids
  pub costs_are : HaveCosts window grids (costs_of (hearing_in b places window q None))
  pub told_are : (station : Station) → has_station window.stations station ≡ true
      → IsTold station (costs_of (hearing_in b places window q None) station) window.seconds q (told_of told station)
  pub window_is : IsWindow window
  pub sequence_is : IsSequence q
  pub walkable : IsWalkable window q
