-- What a sequence costs: how far it is from what the receivers heard.
use Rattle.std.specs.Prelude.{ℕ, zero, suc, ◌+◌, ◌-◌, ◌*◌, ◌/◌, Bool, false, ◌==◌, ◌&&◌, not, if◌then◌else◌, List, [], ◌∷◌, map, filter, sum_by, fold, min, slice_index, slice_index_or, Option, Some, None, unwrap_or, ℤ}
use Rattle.std.specs.List.{range_with_len, list_all}
use Rattle.signal_base.specs.declared.station.Station.{Station}
use Rattle.signal_base.specs.declared.window.Window.{Window}
use Rattle.signal_base.specs.declared.tuning.CostTable.{CostTable}
use Rattle.signal_base.specs.declared.tuning.Tuning.{Tuning}
use Rattle.signal_base.specs.declared.dut.Dut.{Dut}
use Rattle.signal_base.specs.declared.dut.Dut.TheVariants.{Absent, Free, Tied, Tenths}
use Rattle.signal_base.specs.Mask.{has_bit}
use Rattle.signal_base.specs.Waveform.{symbol_count, waveform}
use Rattle.definitions.specs.declared.sequence.Sequence.{Sequence}
use Rattle.definitions.specs.time.Calendar.{minutes_per_day}
use Rattle.definitions.specs.time.Places.{minute_of, second_of}
use Rattle.definitions.specs.codes.Vocabulary.{unscored}
use Rattle.definitions.specs.codes.Allowed.{stations_of}
use Rattle.definitions.specs.heard.Logs.{Records, low_count}
use Rattle.definitions.specs.heard.Receivers.{Reception, Receiver, heard_of}
use Rattle.definitions.specs.sequences.Walks.{place_at, set_at}
use Rattle.definitions.specs.heard.Dut1.{has_dut1, is_dut1_second, dut1_values, dut1_symbol}

-- f 0 + f 1 + .. up to, and without, f n
unfoldable pub sum_below : ℕ → (ℕ → ℕ) → ℕ
sum_below zero f = 0
sum_below (suc n) f = sum_below n f + f n

-- what a tenth of a second costs, from the number of its low milliseconds: nothing where one of them is unknown
abbrev pub tenth_cost : CostTable → Bool → Option ℕ → ℕ
tenth_cost table is_low None = 0
tenth_cost table is_low (Some n) = if is_low then slice_index table.low n else slice_index table.high n

-- what the ten tenths from millisecond m of a log on cost under a waveform
abbrev pub tenths_cost : CostTable → Records → ℕ → List Bool → ℕ
tenths_cost table log m wave = sum_below 10 (λ j. tenth_cost table (slice_index_or wave j false) (low_count log (m + 100 * j) 100))

-- the least of some costs, if there are any
abbrev pub least : List ℕ → Option ℕ
least [] = None
least (c ∷ cs) = Some (fold min c cs)

-- the symbols of a station
abbrev pub symbols_of : Station → List ℕ
symbols_of station = range_with_len 0 (symbol_count station)

-- What counts of the costs of a station's symbols: all of them, or, where a second costs so much at the most, the lesser
-- of both, less the least that it is for any of the symbols. So a second that fits no symbol counts nothing.
abbrev pub counted : Option ℕ → Station → (ℕ → ℕ) → ℕ → ℕ
counted None station costs x = costs x
counted (Some most) station costs x =
    min most (costs x) - unwrap_or (least (map (λ y. min most (costs y)) (symbols_of station))) 0

-- the table of a receiver: its own, or else the bank's
abbrev pub table_of : CostTable → Tuning → CostTable
table_of table tuning = unwrap_or tuning.table table

-- what symbol x of a station costs a receiver in the second from millisecond m of its log on, counted by its weight
abbrev pub second_cost : CostTable → Reception → Station → ℕ → ℕ → ℕ
second_cost table r station m x =
    let own = table_of table r.tuning in
    r.tuning.weight * counted own.second station (λ y. tenths_cost own r.log m (waveform station y)) x

-- what symbol x costs in slot k: the sum over the station's receivers, of which each hears the slot later by its
-- delay
abbrev pub slot_cost : CostTable → List Reception → Station → ℕ → ℕ → ℕ → ℕ
slot_cost table receptions station begin k x =
    sum_by (λ r. second_cost table r station (begin + r.tuning.delay + 1000 * k) x) receptions

-- The costs that are given: of a station, in a slot, of a symbol.
abbrev pub Costs : Type 0
Costs = Station → ℕ → ℕ → ℕ

-- those of a bank whose first slot begins at this millisecond of the log: the window's start and the phase together
abbrev pub bank_costs : CostTable → List Receiver → ℕ → Costs
bank_costs table bank begin station = slot_cost table (heard_of station bank) station begin

-- what a set of symbols costs, from the costs of the symbols: the cheapest of the set, and nothing where the
-- second isn't scored. A set of none of the station's symbols would cost nothing, but no second of a minute has one.
abbrev pub set_cost : Station → (ℕ → ℕ) → ℕ → ℕ
set_cost station costs set =
    if set == unscored then 0 else unwrap_or (least (map costs (filter (has_bit set) (symbols_of station)))) 0

-- all slots of the walk lie in one UTC day
abbrev pub lies_in_one_day : ℕ → Sequence → Bool
lies_in_one_day n q =
    list_all (λ k. minute_of (place_at q k) / minutes_per_day == q.first / minutes_per_day) (range_with_len 0 n)

-- what the sets of n slots cost a station, but for the seconds that tell DUT1
abbrev pub cost_outside_dut1 : Station → (ℕ → ℕ → ℕ) → ℕ → Sequence → ℕ
cost_outside_dut1 station costs n q =
    sum_below n (λ k. if is_dut1_second station (second_of (place_at q k)) then 0 else set_cost station (costs k) (set_at station q k))

-- what these seconds cost where they tell d tenths
abbrev pub dut1_cost : Station → (ℕ → ℕ → ℕ) → ℕ → Sequence → ℤ → ℕ
dut1_cost station costs n q d =
    sum_below n (λ k. let s = second_of (place_at q k) in if is_dut1_second station s then costs k (dut1_symbol station d s) else 0)

-- what they cost at the least; nothing where the station has no values to tell
abbrev pub least_dut1_cost : Station → (ℕ → ℕ → ℕ) → ℕ → Sequence → ℕ
least_dut1_cost station costs n q = unwrap_or (least (map (dut1_cost station costs n q) (dut1_values station))) 0

-- What a sequence costs a station over n slots. Within one UTC day the seconds that tell DUT1 tell one value of it;
-- between two days it may change, and each second is free.
abbrev pub station_cost : Station → (ℕ → ℕ → ℕ) → ℕ → Sequence → ℕ
station_cost station costs n q =
    if has_dut1 station && lies_in_one_day n q
    then cost_outside_dut1 station costs n q + least_dut1_cost station costs n q
    else sum_below n (λ k. set_cost station (costs k) (set_at station q k))

-- what a sequence costs in a window: the sum over the window's stations
abbrev pub sequence_cost : Costs → Window → Sequence → ℕ
sequence_cost costs window q =
    sum_by (λ station. station_cost station (costs station) window.seconds q) (stations_of window.stations)

-- what is told by the values that cost least
abbrev pub dut_among : List ℤ → Dut
dut_among [] = Absent
dut_among (d ∷ []) = Tenths d
dut_among (d ∷ e ∷ ds) = Tied

-- what a station tells of DUT1 in a sequence: a value where it alone costs least
abbrev pub dut_of : Station → (ℕ → ℕ → ℕ) → ℕ → Sequence → Dut
dut_of station costs n q =
    if not (has_dut1 station) then Absent
    else if not (lies_in_one_day n q) then Free
    else dut_among (filter (λ d. dut1_cost station costs n q d == least_dut1_cost station costs n q) (dut1_values station))
