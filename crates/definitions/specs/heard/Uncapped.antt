-- The same bank without bounds on what a second costs, and where no second would cost more than its bound.
use Rattle.std.specs.Prelude.{ℕ, ◌+◌, ◌*◌, ◌<◌, ◌≤◌, ◌≡◌, ◌≢◌, true, List, map, Some, None, option_map}
use Rattle.std.specs.List.{All}
use Rattle.signal_base.specs.declared.station.Station.{Station}
use Rattle.signal_base.specs.declared.window.Window.{Window}
use Rattle.signal_base.specs.declared.tuning.CostTable.{CostTable}
use Rattle.signal_base.specs.declared.tuning.Tuning.{Tuning}
use Rattle.signal_base.specs.Waveform.{symbol_count, waveform}
use Rattle.definitions.specs.declared.sequence.Sequence.{Sequence}
use Rattle.definitions.specs.codes.Vocabulary.{unscored}
use Rattle.definitions.specs.codes.Allowed.{has_station}
use Rattle.definitions.specs.heard.Receivers.{Reception, Receiver, heard_of}
use Rattle.definitions.specs.heard.Costs.{Costs, bank_costs, table_of, tenths_cost}
use Rattle.definitions.specs.sequences.Walks.{set_at}

-- the same table, by which a second costs whatever its tenths add up to
abbrev pub uncapped : CostTable → CostTable
uncapped table = record table { second = None }

-- the same with a receiver's own table, if it has one
abbrev pub uncapped_tuning : Tuning → Tuning
uncapped_tuning tuning = record tuning { table = option_map uncapped tuning.table }

abbrev pub uncapped_reception : Reception → Reception
uncapped_reception r = record r { tuning = uncapped_tuning r.tuning }

abbrev pub uncapped_receiver : Receiver → Receiver
uncapped_receiver r = record r { heard = uncapped_reception r.heard }

-- what the symbols cost without bounds
abbrev pub uncapped_costs : CostTable → List Receiver → ℕ → Costs
uncapped_costs table bank begin = bank_costs (uncapped table) (map uncapped_receiver bank) begin

-- in n slots no symbol of a station costs a receiver more than the bound that it has, if it has one
abbrev pub StaysWithin : CostTable → Station → ℕ → ℕ → Reception → Type 0
StaysWithin table station begin n r =
    let own = table_of table r.tuning in
    (most : ℕ) → own.second ≡ Some most → (k x : ℕ) → k < n → x < symbol_count station
    → tenths_cost own r.log (begin + r.tuning.delay + 1000 * k) (waveform station x) ≤ most

-- so it is for each receiver that hears a station of the window
abbrev pub NoneIsCapped : CostTable → List Receiver → ℕ → Window → Type 0
NoneIsCapped table bank begin window =
    (station : Station) → has_station window.stations station ≡ true
    → All (StaysWithin table station begin window.seconds) (heard_of station bank)

-- every slot of a window is scored for each of its stations
abbrev pub IsScored : Window → Sequence → Type 0
IsScored window q =
    (station : Station) (k : ℕ) → has_station window.stations station ≡ true → k < window.seconds → set_at station q k ≢ unscored
