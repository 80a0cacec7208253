-- No mask before this one is named.
use Rattle.std.proofs.Common.{ℕ, ◌<◌, ◌≤◌, ◌-◌}
use Rattle.certificate_texts.specs.Lines.{IsOfMask}
use Rattle.certificate_texts.proofs.head.stations_in.Given as goal

abbrev pub invariant-loop-mask : goal.invariant-loop-mask
invariant-loop-mask l = record {
  some : 1 ≤ l.mask;
  few : l.mask ≤ 16;
  none : (m : ℕ) → m < l.mask → 1 ≤ m → IsOfMask l.before l.text m → ⊥;
}

abbrev pub decreases-loop-mask : goal.decreases-loop-mask
decreases-loop-mask l = 16 - l.mask
