-- What a station tells of DUT1 rests on what the symbols 0 and 1 cost in its slots.
use Rattle.std.proofs.Common.{◌≡◌, ℕ, ◌<◌, ◌==◌, not, if◌then◌else◌, filter, map, unwrap_or, ℤ, ap}
use Rattle.std.proofs.Math.Path.{fun_ext}
use Rattle.signal_base.specs.declared.dut.Dut.{Dut}
use Rattle.signal_base.specs.declared.dut.Dut.TheVariants.{Absent, Free}
use Rattle.signal_base.specs.declared.station.Station.{Station}
use Rattle.definitions.specs.declared.sequence.Sequence.{Sequence}
use Rattle.definitions.specs.heard.Costs.{dut1_cost, dut_among, dut_of, least, lies_in_one_day}
use Rattle.definitions.specs.heard.Dut1.{dut1_symbol, dut1_values, has_dut1, is_dut1_second}
use Rattle.definitions.specs.sequences.Walks.{place_at}
use Rattle.definitions.proofs.CostLaws.{sum_below_same}
use Rattle.definitions.proofs.Dut1Laws.{dut1_bit}
use Rattle.definitions.proofs.SetLaws.{IsBit}

module _ (station : Station) (f g : ℕ → ℕ → ℕ) (n : ℕ) (q : Sequence) (same : (k x : ℕ) → k < n → IsBit x → f k x ≡ g k x) where
  same_cost : (d : ℤ) → dut1_cost station f n q d ≡ dut1_cost station g n q d
  same_cost d =
      sum_below_same n _ _ (λ k lt. ap (λ c. if is_dut1_second station (place_at q k).1 then c else 0)
      (same k (dut1_symbol station d (place_at q k).1) lt (dut1_bit station d (place_at q k).1)))

  told_by : (ℤ → ℕ) → Dut
  told_by costs =
      if not (has_dut1 station) then Absent
      else if not (lies_in_one_day n q) then Free
      else dut_among (filter (λ d. costs d == unwrap_or (least (map costs (dut1_values station))) 0) (dut1_values station))

  pub same_dut : dut_of station f n q ≡ dut_of station g n q
  unfolding told_by
  same_dut = ap told_by (fun_ext same_cost)
