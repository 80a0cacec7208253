-- What was heard of a decided window: in each slot the symbol that a station sent, the one that its receivers heard best,
-- and what the sent one costs each of them.
use Rattle.std.specs.Prelude.{ℕ, zero, suc, ◌+◌, ◌*◌, Bool, ◌==◌, ◌&&◌, if◌then◌else◌, List, [], ◌∷◌, ◌++◌, codes, map, filter, find, Option, Some, None, option_map, unwrap_or, is_none, ℤ}
use Rattle.std.specs.Fmt.{decimal}
use Rattle.std.specs.List.{flat_map}
use Rattle.signal_base.specs.declared.station.Station.{Station}
use Rattle.signal_base.specs.declared.tuning.CostTable.{CostTable}
use Rattle.signal_base.specs.declared.window.Window.{Window}
use Rattle.signal_base.specs.Mask.{has_bit}
use Rattle.signal_base.specs.Number.{number_of}
use Rattle.definitions.specs.declared.sequence.Sequence.{Sequence}
use Rattle.definitions.specs.time.Places.{minute_of, second_of}
use Rattle.definitions.specs.time.Spelling.{minute_text}
use Rattle.definitions.specs.codes.Vocabulary.{only, unscored}
use Rattle.definitions.specs.codes.Allowed.{stations_of}
use Rattle.definitions.specs.codes.Listing.{listed}
use Rattle.definitions.specs.sequences.Walks.{place_at, set_at}
use Rattle.definitions.specs.heard.Logs.{Records, low_count}
use Rattle.definitions.specs.heard.Receivers.{Receiver}
use Rattle.definitions.specs.heard.Dut1.{has_dut1, is_dut1_second, dut1_values, dut1_symbol}
use Rattle.definitions.specs.heard.Costs.{Costs, bank_costs, dut1_cost, least, lies_in_one_day, second_cost, sum_below, symbols_of}
use Rattle.formats.specs.declared.heard.ReceiverHeard.{ReceiverHeard}
use Rattle.formats.specs.declared.heard.SlotHeard.{SlotHeard}
use Rattle.formats.specs.Bytes.{space, line, station_name}
use Rattle.formats.specs.Reports.{next_line}

-- The first of some things at which a cost is least, if there are any.
abbrev pub cheapest : {A : Type 0} → (A → ℕ) → List A → Option A
cheapest cost xs = let lowest = unwrap_or (least (map cost xs)) 0 in find (λ x. cost x == lowest) xs

-- what one thing costs, and nothing where there is none
abbrev pub cost_of : {A : Type 0} → (A → ℕ) → Option A → ℕ
cost_of cost None = 0
cost_of cost (Some x) = cost x

-- the symbol of a set: its cheapest, and none where the second isn't scored
abbrev pub symbol_of_set : Station → (ℕ → ℕ) → ℕ → Option ℕ
symbol_of_set station costs set =
    if set == unscored then None else cheapest costs (filter (has_bit set) (symbols_of station))

-- the seconds that tell DUT1 tell one value of it over n slots
abbrev pub tells_one_value : Station → ℕ → Sequence → Bool
tells_one_value station n q = has_dut1 station && lies_in_one_day n q

-- this value, in tenths: the one that costs least, and of several that do the first, from the most negative up
abbrev pub told_value : Station → (ℕ → ℕ → ℕ) → ℕ → Sequence → Option ℤ
told_value station costs n q = cheapest (dut1_cost station costs n q) (dut1_values station)

-- The symbol that a station sends in slot k of n: in a second that tells a value of DUT1 that of the value, and else that
-- of the set.
abbrev pub sent_symbol : Station → (ℕ → ℕ → ℕ) → ℕ → Sequence → ℕ → Option ℕ
sent_symbol station costs n q k =
    let s = second_of (place_at q k) in
    if tells_one_value station n q && is_dut1_second station s
    then option_map (λ d. dut1_symbol station d s) (told_value station costs n q)
    else symbol_of_set station (costs k) (set_at station q k)

-- the cheapest symbol of a station
abbrev pub best_symbol : Station → (ℕ → ℕ) → ℕ
best_symbol station costs = unwrap_or (cheapest costs (symbols_of station)) 0

-- what is told of slot k of n and a station, under some costs
abbrev pub slot_heard : Costs → ℕ → Sequence → ℕ → Station → SlotHeard
slot_heard costs n q k station =
    let sent = sent_symbol station (costs station) n q k in
    let best = best_symbol station (costs station k) in
    record {
      slot = k;
      minute = minute_of (place_at q k);
      second = second_of (place_at q k);
      station = station;
      sent = sent;
      cost = cost_of (costs station k) sent;
      best = best;
      best_cost = costs station k best;
    }

-- what is looked at: the receivers of a bank, what a tenth of a second costs, the window, the sequence that was decided,
-- and what the next one costs, if there is one
pub record Hearing : Type 0 where
  pub receivers : List Receiver
  pub table : CostTable
  pub window : Window
  pub sequence : Sequence
  pub next : Option ℕ

-- what symbols cost in it
abbrev pub costs_of : Hearing → Costs
costs_of h = bank_costs h.table h.receivers (h.window.start + h.window.phase)

-- the symbol that a station sends in slot k
abbrev pub sent_in : Hearing → ℕ → Station → Option ℕ
sent_in h k station = sent_symbol station (costs_of h station) h.window.seconds h.sequence k

-- what is told of slot k and a station
abbrev pub slot_of : Hearing → ℕ → Station → SlotHeard
slot_of h k station = slot_heard (costs_of h) h.window.seconds h.sequence k station

-- a receiver and its number
abbrev pub Numbered : Type 0
Numbered = ℕ × Receiver

abbrev pub its_number : Numbered → ℕ
its_number r = r.0

abbrev pub its_receiver : Numbered → Receiver
its_receiver r = r.1

-- receivers with their numbers, of which the first is given
abbrev pub numbered_from : ℕ → List Receiver → List Numbered
numbered_from n [] = []
numbered_from n (r ∷ rs) = (n, r) ∷ numbered_from (n + 1) rs

-- the receivers by their numbers in the configuration
abbrev pub numbered : Hearing → List Numbered
numbered h = numbered_from 1 h.receivers

-- the millisecond of a receiver's log at which slot k begins for it
abbrev pub slot_begin_at : Hearing → Receiver → ℕ → ℕ
slot_begin_at h r k = h.window.start + h.window.phase + r.heard.tuning.delay + 1000 * k

-- how many of the ten tenths from millisecond m on are unknown
abbrev pub unknown_tenths : Records → ℕ → ℕ
unknown_tenths log m = sum_below 10 (λ j. if is_none (low_count log (m + 100 * j) 100) then 1 else 0)

-- what a symbol of its station costs a receiver in slot k
abbrev pub cost_at : Hearing → Receiver → ℕ → ℕ → ℕ
cost_at h r k x = second_cost h.table r.heard r.station (slot_begin_at h r k) x

-- what is told of a receiver in slot k
abbrev pub receiver_heard : Hearing → ℕ → Numbered → ReceiverHeard
receiver_heard h k r =
    record {
      number = its_number r;
      unknown = unknown_tenths (its_receiver r).heard.log (slot_begin_at h (its_receiver r) k);
      cost = cost_of (cost_at h (its_receiver r) k) (sent_in h k (its_receiver r).station);
    }

-- of all receivers of a station, in the order of their numbers
abbrev pub receivers_heard : Hearing → ℕ → Station → List ReceiverHeard
receivers_heard h k station =
    map (receiver_heard h k) (filter (λ r. number_of (its_receiver r).station == number_of station) (numbered h))

-- what is told of a receiver over all slots
abbrev pub receiver_sum : Hearing → Numbered → ReceiverHeard
receiver_sum h r =
    record {
      number = its_number r;
      unknown = sum_below h.window.seconds (λ k. (receiver_heard h k r).unknown);
      cost = sum_below h.window.seconds (λ k. (receiver_heard h k r).cost);
    }

abbrev pub receiver_sums : Hearing → List ReceiverHeard
receiver_sums h = map (receiver_sum h) (numbered h)

-- the set of one symbol, and the one of a second that isn't scored where there is none
abbrev pub set_of_symbol : Option ℕ → ℕ
set_of_symbol None = unscored
set_of_symbol (Some x) = only x

-- a symbol as a listing writes it
abbrev pub symbol_text : Station → Option ℕ → List ℕ
symbol_text station symbol = listed station (set_of_symbol symbol) ∷ []

-- the line of a slot and a station
abbrev pub slot_line : SlotHeard → List ℕ
slot_line s =
    line (codes "slot " ++ decimal s.slot ++ space ∷ minute_text s.minute ++ space ∷ decimal s.second ++ space ∷ station_name s.station
    ++ codes " sent " ++ symbol_text s.station s.sent ++ codes " cost " ++ decimal s.cost
    ++ codes " best " ++ symbol_text s.station (Some s.best) ++ codes " cost " ++ decimal s.best_cost)

-- what is said of a receiver
abbrev pub receiver_text : ReceiverHeard → List ℕ
receiver_text r = codes "receiver " ++ decimal r.number ++ codes " unknown " ++ decimal r.unknown ++ codes " cost " ++ decimal r.cost

-- in a slot, and over all slots
abbrev pub receiver_line : ReceiverHeard → List ℕ
receiver_line r = line (receiver_text r)

abbrev pub sum_line : ReceiverHeard → List ℕ
sum_line r = line (codes "sum " ++ receiver_text r)

-- the lines of slot k and a station
abbrev pub station_lines : Hearing → ℕ → Station → List ℕ
station_lines h k station = slot_line (slot_of h k station) ++ flat_map receiver_line (receivers_heard h k station)

-- the lines of slot k, station by station
abbrev pub slot_lines : Hearing → ℕ → List ℕ
slot_lines h k = flat_map (station_lines h k) (stations_of h.window.stations)

-- the lines of the first n slots
unfoldable pub slots_lines : Hearing → ℕ → List ℕ
slots_lines h zero = []
slots_lines h (suc n) = slots_lines h n ++ slot_lines h n

-- the whole text: the slots, the sum of each receiver, and what the next sequence costs
abbrev pub heard_text : Hearing → List ℕ
heard_text h = slots_lines h h.window.seconds ++ (flat_map sum_line (receiver_sums h) ++ next_line h.next)
