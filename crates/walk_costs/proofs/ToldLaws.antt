-- What the seconds of DUT1 cost where they tell a value, and where they are free.
use Rattle.std.proofs.Common.{◌≡◌, ℕ, zero, suc, ◌+◌, ◌%◌, ◌^◌, ◌<◌, ◌≤◌, Bool, true, false, if◌then◌else◌, ℤ, length, refl, subst, arith}
use Rattle.signal_base.specs.declared.station.Station.{Station}
use Rattle.signal_base.specs.declared.station.Station.TheVariants.{Dcf77, Msf, Wwvb, Jjy}
use Rattle.definitions.specs.heard.Costs.{set_cost}
use Rattle.definitions.specs.heard.Dut1.{dut1_symbol, has_dut1, is_dut1_second}
use Rattle.definitions.proofs.Dut1Laws.{dut1_bit}
use Rattle.definitions.proofs.SetLaws.{IsBit}
use Rattle.symbol_cost.specs.Grid.{Grid, cost_at}
use Rattle.walk_costs.specs.Dates.{free_part, free_set, part_cost, told_part, told_set}
use Rattle.walk_costs.proofs.SumLaws.{cost_in, made_part, sum_le}

-- one of the two symbols costs no less than both together
bit_costs : (station : Station) (costs : ℕ → ℕ) (b : ℕ) → has_dut1 station ≡ true → b < 2 → set_cost station costs 3 ≤ set_cost station costs (2 ^ b)
bit_costs Dcf77 costs b has lt = absurd cc
bit_costs Jjy costs b has lt = absurd cc
bit_costs Msf costs zero has lt = omega arith
bit_costs Msf costs (suc zero) has lt = omega arith
bit_costs Msf costs (suc (suc b)) has lt = absurd (omega arith)
bit_costs Wwvb costs zero has lt = omega arith
bit_costs Wwvb costs (suc zero) has lt = omega arith
bit_costs Wwvb costs (suc (suc b)) has lt = absurd (omega arith)

pub bit_below : (station : Station) (d : ℤ) (s : ℕ) → dut1_symbol station d s < 2
unfolding IsBit
bit_below station d s = dut1_bit station d s

told_costs : (station : Station) (costs : ℕ → ℕ) (d : ℤ) (s : ℕ) → has_dut1 station ≡ true
    → set_cost station costs (free_set station s) ≤ set_cost station costs (told_set station d s)
told_costs station costs d s has = by_test (is_dut1_second station s)
  where
    by_test : (t : Bool) → set_cost station costs (if t then 3 else 0) ≤ set_cost station costs (if t then 2 ^ dut1_symbol station d s else 0)
    by_test true = bit_costs station costs (dut1_symbol station d s) has (bit_below station d s)
    by_test false = omega arith

pub not_less : (grid : Grid) (station : Station) (p : ℕ) (d : ℤ) → station ≡ grid.station → has_dut1 station ≡ true
    → part_cost grid p (free_part station) ≤ part_cost grid p (told_part station d)
unfolding free_part told_part
not_less grid station p d is has =
    let slot = λ (k : ℕ) (within : k < length grid.rows).
    let s : ℕ = (p + k) % 60 in
    let costs = cost_at grid.rows k in
    subst (λ (t : Station). set_cost t costs (free_set station s) ≤ set_cost t costs (told_set station d s)) is (told_costs station costs d s has) in
    let less = sum_le (length grid.rows) (λ k. cost_in grid k (free_set station ((p + k) % 60))) (λ k. cost_in grid k (told_set station d ((p + k) % 60))) slot in
    omega (arith, less, made_part grid p (free_set station) (free_part station) refl, made_part grid p (told_set station d) (told_part station d) refl)
