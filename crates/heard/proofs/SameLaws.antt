-- Costs that agree in the slots of a window lead to the same symbols.
use Rattle.std.proofs.Common.{◌≡◌, ℕ, ◌<◌, inl, inr, nat_lt, if◌then◌else◌, Option, Some, ℤ, sym, ap, ◌∙◌, arith}
use Rattle.std.proofs.Math.Path.{fun_ext}
use Rattle.signal_base.specs.declared.station.Station.{Station}
use Rattle.signal_base.specs.Waveform.{symbol_count}
use Rattle.definitions.specs.declared.sequence.Sequence.{Sequence}
use Rattle.definitions.specs.codes.Allowed.{IsSetOf}
use Rattle.definitions.specs.heard.Costs.{dut1_cost}
use Rattle.definitions.specs.heard.Dut1.{dut1_symbol, dut1_values, is_dut1_second}
use Rattle.definitions.specs.sequences.Walks.{place_at}
use Rattle.definitions.proofs.CostLaws.{sum_below_same}
use Rattle.definitions.proofs.Dut1Laws.{dut1_bit}
use Rattle.definitions.proofs.SetLaws.{few}
use Rattle.formats.specs.Heard.{best_symbol, cheapest, symbol_of_set, told_value}
use Rattle.formats.proofs.CheapestLaws.{IsBest}
use Rattle.formats.proofs.SymbolLaws.{best_law}
use Rattle.heard.specs.Told.{IsTold}
use Rattle.heard.proofs.SymbolLaws.{best_is, of_free, of_one, of_unscored, two_symbols}

-- in one slot
module _ (station : Station) (f g : ℕ → ℕ) (same : (x : ℕ) → x < symbol_count station → f x ≡ g x) where
  best_too : (y : ℕ) → IsBest f (symbol_count station) y → IsBest g (symbol_count station) y
  best_too y best = (
    best.0,
    λ x lt. omega (arith, best.1 x lt, same x lt, same y best.0),
    λ x lt. omega (arith, best.2 x lt, same x (omega (arith, lt, best.0)), same y best.0),
  )

  pub same_best : best_symbol station f ≡ best_symbol station g
  same_best = best_is station g (best_symbol station f) (best_too (best_symbol station f) (best_law station f))

  pub same_of_set : (set : ℕ) → IsSetOf station set → symbol_of_set station f set ≡ symbol_of_set station g set
  same_of_set set (inl e) = of_unscored station f set e ∙ sym (of_unscored station g set e)
  same_of_set set (inr (inl e)) =
      of_free station f set e
      ∙ ap (λ c. Some (if nat_lt c (f 0) then 1 else 0)) (same 1 (omega (arith, two_symbols station)))
      ∙ ap (λ c. Some (if nat_lt (g 1) c then 1 else 0)) (same 0 (omega (arith, two_symbols station)))
      ∙ sym (of_free station g set e)
  same_of_set set (inr (inr (x, known, e))) =
      ap (symbol_of_set station f) e ∙ of_one station f x known ∙ sym (of_one station g x known) ∙ ap (symbol_of_set station g) (sym e)

-- over all slots
module _ (station : Station) (f g : ℕ → ℕ → ℕ) (n : ℕ) (q : Sequence) (same : (k x : ℕ) → k < n → x < symbol_count station → f k x ≡ g k x) where
  same_cost : (d : ℤ) → dut1_cost station f n q d ≡ dut1_cost station g n q d
  same_cost d =
      sum_below_same n _ _ (λ k lt.
      let s = (place_at q k).1 in
      ap (λ c. if is_dut1_second station s then c else 0) (same k (dut1_symbol station d s) lt (few station _ (dut1_bit station d s))))

  told_from : (ℤ → ℕ) → Option ℤ
  told_from costs = cheapest costs (dut1_values station)

  same_value : told_value station f n q ≡ told_value station g n q
  unfolding told_from
  same_value = ap told_from (fun_ext same_cost)

  pub told_too : (o : Option ℕ) → IsTold station f n q o → IsTold station g n q o
  told_too o is = record { tells = is.tells; known = is.known; value = λ i e. sym same_value ∙ is.value i e }
