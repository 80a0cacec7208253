-- Windows that follow one another: their starts, and what their slots cost.
use Rattle.std.proofs.Common.{◌≡◌, ℕ, ◌+◌, ◌-◌, ◌*◌, ◌<◌, ◌≤◌, List, [], ◌∷◌, All, get_or, refl, sym, ap, subst, arith, zero-add}
use Rattle.std.proofs.lemmas.List.FromFn.{get_or-map-range_with_len, length-map-range_with_len}
use Rattle.std.proofs.lemmas.List.Sums.{sum_by-cons}
use Rattle.std.proofs.lemmas.Nat.{mul-le}
use Rattle.signal_base.specs.declared.station.Station.{Station}
use Rattle.signal_base.specs.declared.tuning.CostTable.{CostTable}
use Rattle.signal_base.specs.declared.window.Window.{Window}
use Rattle.definitions.specs.heard.Costs.{second_cost, slot_cost}
use Rattle.definitions.specs.heard.Receivers.{Reception, heard_of}
use Rattle.definitions.specs.sequences.Windows.{IsWindow}
use Rattle.formats.specs.Reports.{slot_begin}
use Rattle.due.specs.Banks.{Bank, costs_in}
use Rattle.follow_due.specs.Windows.{StartInTime, window_after, windows_from}

-- no step leads to the first one
pub no_step : (first : Window) (step : ℕ) → window_after first step 0 ≡ first
no_step first step =
    let at : first.start + 1000 * (step * 0) ≡ first.start = omega arith in
    ap (λ (start : ℕ). let w : Window = record first { start = start } in w) at

-- a window by its place
pub window_at : (first : Window) (step count i : ℕ) (d : Window) → i < count → get_or (windows_from first step count) i d ≡ window_after first step i
window_at first step count i d within = get_or-map-range_with_len (window_after first step) 0 count i i d within (zero-add i)

-- it starts so many steps later
begins_later : (start phase n k : ℕ) → start + 1000 * n + phase + 1000 * k ≡ start + phase + 1000 * (k + n)
begins_later start phase n k = omega arith

pub slot_begins : (first : Window) (step i k : ℕ) → slot_begin (window_after first step i) k ≡ slot_begin first (k + step * i)
slot_begins first step i k = begins_later first.start first.phase (step * i) k

-- what a slot costs in a window that begins later is what a later slot costs
later_cost : (table : CostTable) (rs : List Reception) (station : Station) (begin later n k x : ℕ) → later ≡ begin + 1000 * n
    → slot_cost table rs station later k x ≡ slot_cost table rs station begin (k + n) x
later_cost table [] station begin later n k x is = refl
later_cost table (r ∷ rs) station begin later n k x is =
    let f = λ (r : Reception). second_cost table r station (later + r.tuning.delay + 1000 * k) x in
    let g = λ (r : Reception). second_cost table r station (begin + r.tuning.delay + 1000 * (k + n)) x in
    let at : later + r.tuning.delay + 1000 * k ≡ begin + r.tuning.delay + 1000 * (k + n) = omega arith in
    let first : f r ≡ g r = ap (λ m. second_cost table r station m x) at in
    omega (arith, sum_by-cons f r rs, sum_by-cons g r rs, first, later_cost table rs station begin later n k x is)

starts_later : (start phase n : ℕ) → start + 1000 * n + phase ≡ start + phase + 1000 * n
starts_later start phase n = omega arith

pub slot_costs : (first : Window) (bank : Bank) (station : Station) (step i k x : ℕ)
    → costs_in (window_after first step i) bank station k x ≡ costs_in first bank station (k + step * i) x
slot_costs first bank station step i k x =
    later_cost bank.table (heard_of station bank.receivers) station (first.start + first.phase) (first.start + 1000 * (step * i) + first.phase) (step * i) k x
    (starts_later first.start first.phase (step * i))

-- each is in its ranges
early : (start a b limit : ℕ) → a ≤ b → start + 1000 * b < limit → start + 1000 * a < limit
early start a b limit le last = omega arith

pub window_in_range : (first : Window) (step count i : ℕ) → IsWindow first → StartInTime first step count → i < count → IsWindow (window_after first step i)
window_in_range first step count i is last within = record {
  some_station = is.some_station;
  stations = is.stations;
  start = early first.start (step * i) (step * (count - 1)) _ (mul-le step i step (count - 1) (omega arith) (omega (arith, within))) last;
  phase = is.phase;
  not_short = is.not_short;
  not_long = is.not_long;
  not_empty = is.not_empty;
  century = is.century;
}

pub all_in_range : (first : Window) (step count : ℕ) → IsWindow first → StartInTime first step count → All IsWindow (windows_from first step count)
all_in_range first step count is last i d within =
    let inside : i < count = omega (arith, within, length-map-range_with_len (window_after first step) 0 count) in
    subst (λ (w : Window). IsWindow w) (sym (window_at first step count i d inside)) (window_in_range first step count i is last inside)
