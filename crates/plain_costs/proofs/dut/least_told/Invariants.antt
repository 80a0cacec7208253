use Rattle.std.proofs.Common.{◌≡◌, ◌≤◌, ℕ, Some, map, slice_index, ℤ}
use Rattle.definitions.specs.heard.Costs.{least}
use Rattle.plain_costs.specs.Tenths.{AreByValue}
use Rattle.plain_costs.proofs.ValueLaws.{values_below}
use Rattle.plain_costs.proofs.dut.least_told.Given as goal

abbrev pub invariant-loop-i : goal.invariant-loop-i
invariant-loop-i l = record {
  least : (cost : ℤ → ℕ) → AreByValue l.fn.station l.told cost → Some l.least ≡ least (map cost (values_below l.fn.station l.i));
  bound : l.least ≤ slice_index l.told 0;
}
