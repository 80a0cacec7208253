-- What a bit costs.
use Rattle.std.proofs.Common.{◌≡◌, ◌==◌, ◌<◌, ◌≤◌, ℕ, zero, suc, Bool, true, false, if◌then◌else◌, refl, arith}
use Rattle.signal_base.specs.declared.station.Station.{Station}
use Rattle.signal_base.specs.declared.station.Station.TheVariants.{Dcf77, Msf, Wwvb, Jjy}
use Rattle.definitions.specs.heard.Costs.{set_cost}

-- the sets of a 0 and of a 1 alone
pub only_zero : (station : Station) (costs : ℕ → ℕ) → set_cost station costs 1 ≡ costs 0
only_zero Dcf77 costs = refl
only_zero Msf costs = refl
only_zero Wwvb costs = refl
only_zero Jjy costs = refl

pub only_one : (station : Station) (costs : ℕ → ℕ) → set_cost station costs 2 ≡ costs 1
only_one Dcf77 costs = refl
only_one Msf costs = refl
only_one Wwvb costs = refl
only_one Jjy costs = refl

pub bit_cost : (costs : ℕ → ℕ) (bit a b : ℕ) → bit < 2 → a ≡ costs 0 → b ≡ costs 1 → (if bit == 1 then b else a) ≡ costs bit
bit_cost costs zero a b lt zero_costs one_costs = zero_costs
bit_cost costs (suc zero) a b lt zero_costs one_costs = one_costs
bit_cost costs (suc (suc n)) a b lt zero_costs one_costs = absurd (omega (arith, lt))

pub bit_cost_bound : (bit a b most : ℕ) → a ≤ most → b ≤ most → (if bit == 1 then b else a) ≤ most
bit_cost_bound bit a b most low high = by_test (bit == 1)
  where
    by_test : (t : Bool) → (if t then b else a) ≤ most
    by_test true = high
    by_test false = low
