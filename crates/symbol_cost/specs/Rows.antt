-- Rows of costs, and what is added to them.
use Rattle.std.specs.Prelude.{ℕ, ◌≡◌, ◌+◌, ◌<◌, ◌≤◌, List, length, slice_index}
use Rattle.signal_base.specs.declared.station.Station.{Station}
use Rattle.signal_base.specs.declared.tuning.Tuning.{Tuning}
use Rattle.signal_base.specs.Waveform.{symbol_count}
use Rattle.definitions.specs.heard.Logs.{Records}
use Rattle.definitions.specs.heard.Receivers.{Reception}
use Rattle.symbol_cost.specs.declared.limits.TheConstants.{RECEIVER_COST}
use Rattle.symbol_cost.specs.Grid.{cost_at}

-- each symbol of the station costs so much more
abbrev pub Adds : Station → List ℕ → List ℕ → (ℕ → ℕ) → Type 0
Adds station old new more = (x : ℕ) → x < symbol_count station → slice_index new x ≡ slice_index old x + more x

-- in each row each symbol of the station costs so much more, which one receiver can make of it
pub record AddsToRows (station : Station) (old new : List (List ℕ)) (more : ℕ → ℕ → ℕ) : Type 0 where
  pub slots : length new ≡ length old
  pub each : (k x : ℕ) → k < length old → x < symbol_count station → cost_at new k x ≡ cost_at old k x + more k x
  pub bound : (k x : ℕ) → cost_at new k x ≤ cost_at old k x + RECEIVER_COST

-- what a receiver of this tuning heard
abbrev pub heard : Tuning → Records → Reception
heard tuning log = record { tuning = tuning; log = log }
