-- What a bound on the cost of a second does.
use Rattle.std.proofs.Common.{◌≡◌, ℕ, ◌≤◌, Option, Some, None, arith}
use Rattle.signal_base.specs.declared.station.Station.{Station}
use Rattle.definitions.specs.heard.Costs.{counted}

-- what counts is no more than the cost
pub counted_lower : (second : Option ℕ) (station : Station) (costs : ℕ → ℕ) (x : ℕ) → counted second station costs x ≤ costs x
counted_lower None station costs x = omega arith
counted_lower (Some most) station costs x = omega arith

-- nor than the most that a second costs
pub counted_capped : (second : Option ℕ) (station : Station) (costs : ℕ → ℕ) (x most : ℕ) → second ≡ Some most → counted second station costs x ≤ most
counted_capped None station costs x most e = cc
counted_capped (Some m) station costs x most e = omega (arith, (let same : m ≡ most = cc in same))
