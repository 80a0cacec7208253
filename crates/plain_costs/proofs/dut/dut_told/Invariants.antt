use Rattle.std.proofs.Common.{◌≡◌, ◌==◌, ℕ, filter, ℤ}
use Rattle.definitions.specs.heard.Costs.{dut_among}
use Rattle.plain_costs.specs.Tenths.{AreByValue}
use Rattle.plain_costs.proofs.ValueLaws.{values_below}
use Rattle.plain_costs.proofs.dut.dut_told.Given as goal

abbrev pub invariant-loop-i : goal.invariant-loop-i
invariant-loop-i l = (cost : ℤ → ℕ) → AreByValue l.station l.told cost → l.found ≡ dut_among (filter (λ d. cost d == l.least) (values_below l.station l.i))
