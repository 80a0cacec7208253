-- From one window to the next.
use Rattle.std.proofs.Common.{◌≡◌, ℕ, suc, ◌+◌, ◌-◌, ◌*◌, ◌<◌, ◌≤◌, List, [], ◌∷◌, ◌++◌, map, sym, ap, subst, arith, mul-suc, zero-add}
use Rattle.std.proofs.lemmas.List.FromFn.{map-range_with_len_more}
use Rattle.std.proofs.lemmas.Nat.{mul-le}
use Rattle.signal_base.specs.declared.limits.TheConstants.{START_LIMIT}
use Rattle.signal_base.specs.declared.window.Window.{Window}
use Rattle.definitions.specs.sequences.Windows.{IsWindow}
use Rattle.symbol_cost.specs.Grid.{Grid}
use Rattle.follow_due.specs.Windows.{window_after, windows_from}
use Rattle.follow_due.proofs.WindowLaws.{no_step}
use Rattle.bank.specs.declared.hearing.Bank.{Bank}
use Rattle.bank.specs.Hearing.{AreBankGrids, later_window}

step_more : (start step j i : ℕ) → i ≡ suc j → start + 1000 * (step * j) + 1000 * step ≡ start + 1000 * (step * i)
step_more start step j i e = rw e (omega (arith, mul-suc step j))

-- a step from the window before
pub one_step : (first : Window) (step i : ℕ) → 1 ≤ i → later_window (window_after first step (i - 1)) step ≡ window_after first step i
one_step first step i some =
    ap (λ (start : ℕ). let w : Window = record first { start = start } in w) (step_more first.start step (i - 1) i (omega arith))

-- it begins early enough
pub step_in_time : (first : Window) (step i : ℕ) → 1 ≤ i → first.start + 1000 * (step * i) < START_LIMIT → (window_after first step (i - 1)).start + 1000 * step < START_LIMIT
step_in_time first step i some early = omega (arith, early, step_more first.start step (i - 1) i (omega arith))

pub before_in_range : (first : Window) (step i : ℕ) → IsWindow first → first.start + 1000 * (step * i) < START_LIMIT → IsWindow (window_after first step (i - 1))
before_in_range first step i is early = record {
  some_station = is.some_station;
  stations = is.stations;
  start = omega (arith, early, mul-le step (i - 1) step i (omega arith) (omega arith));
  phase = is.phase;
  not_short = is.not_short;
  not_long = is.not_long;
  not_empty = is.not_empty;
  century = is.century;
}

pub window_stays_in_range : (first : Window) (step i : ℕ) → IsWindow first → first.start + 1000 * (step * i) < START_LIMIT → IsWindow (window_after first step i)
window_stays_in_range first step i is early = record {
  some_station = is.some_station;
  stations = is.stations;
  start = early;
  phase = is.phase;
  not_short = is.not_short;
  not_long = is.not_long;
  not_empty = is.not_empty;
  century = is.century;
}

-- the grids of the first window
pub first_grids : (b : Bank) (first : Window) (step : ℕ) (grids : List Grid) → AreBankGrids b first grids → AreBankGrids b (window_after first step 0) grids
first_grids b first step grids are = subst (λ (w : Window). AreBankGrids b w grids) (sym (no_step first step)) are

-- and those that were moved to the next one
pub moved_grids : (b : Bank) (first : Window) (step i : ℕ) (grids : List Grid) → 1 ≤ i → AreBankGrids b (later_window (window_after first step (i - 1)) step) grids
    → AreBankGrids b (window_after first step i) grids
moved_grids b first step i grids some are = subst (λ (w : Window). AreBankGrids b w grids) (one_step first step i some) are

pub grids_at : (b : Bank) (first : Window) (step i j : ℕ) (grids : List Grid) → i ≡ j → AreBankGrids b (window_after first step i) grids → AreBankGrids b (window_after first step j) grids
grids_at b first step i j grids e are = subst (λ (k : ℕ). AreBankGrids b (window_after first step k) grids) e are

-- one more window
pub one_window_more : (first : Window) (step i : ℕ) → windows_from first step (i + 1) ≡ windows_from first step i ++ window_after first step i ∷ []
one_window_more first step i = map-range_with_len_more (window_after first step) 0 i i (zero-add i)
