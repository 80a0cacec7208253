use Rattle.std.proofs.Common.{◌≡◌, ◌<◌, ◌≤◌, ℕ, get_or}
use Rattle.slot_columns.proofs.split.least_of_first.Given as goal

abbrev pub invariant-loop-b : goal.invariant-loop-b
invariant-loop-b l = record {
  floor : (d : ℕ) → 1 ≤ d → d < l.b → l.least ≤ get_or l.costs d 0;
  none : l.b ≡ 1 → l.least ≡ 4_294_967_295;
  found : 1 < l.b → (d : ℕ) × (1 ≤ d) × (d < l.b) × (l.least ≡ get_or l.costs d 0);
}
