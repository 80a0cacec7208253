-- Which symbol was sent: that of a value of DUT1, or the cheapest that the second may carry.
use Rattle.std.proofs.Common.{◌≡◌, ℕ, Bool, true, false, ◌&&◌, if◌then◌else◌, Option, Some, None, option_map, refl, sym, ap, ◌∙◌}
use Rattle.std.specs.Prelude.{is_some}
use Rattle.signal_base.specs.declared.station.Station.{Station}
use Rattle.definitions.specs.declared.sequence.Sequence.{Sequence}
use Rattle.definitions.specs.heard.Dut1.{dut1_symbol, is_dut1_second}
use Rattle.definitions.specs.sequences.Walks.{place_at, set_at}
use Rattle.formats.specs.Heard.{Hearing, costs_of, sent_in, symbol_of_set, tells_one_value, told_value}
use Rattle.plain_costs.specs.Tenths.{tenths_at}
use Rattle.heard.specs.Told.{IsTold}

and_false : (b : Bool) → (b && false) ≡ false
and_false true = refl
and_false false = refl

module _ (station : Station) (costs : ℕ → ℕ → ℕ) (n : ℕ) (q : Sequence) (second : ℕ) where
  abbrev tells : Bool
  tells = tells_one_value station n q && is_dut1_second station second

  abbrev told_symbol : Option ℕ
  told_symbol = option_map (λ d. dut1_symbol station d second) (told_value station costs n q)

  -- no value is told
  pub nothing_told : (o : Option ℕ) → o ≡ None → IsTold station costs n q o → tells ≡ false
  nothing_told o e is = ap (λ b. b && is_dut1_second station second) (is.tells ∙ ap is_some e)

  pub no_second_of_it : is_dut1_second station second ≡ false → tells ≡ false
  no_second_of_it e = ap (λ b. tells_one_value station n q && b) e ∙ and_false (tells_one_value station n q)

  -- or this one
  pub record IsSymbol (x : ℕ) : Type 0 where
    pub tells_it : tells ≡ true
    pub symbol : told_symbol ≡ Some x

  pub value_told : (o : Option ℕ) (i x : ℕ) → o ≡ Some i → IsTold station costs n q o → is_dut1_second station second ≡ true
      → x ≡ dut1_symbol station (tenths_at station i) second → IsSymbol x
  value_told o i x e is here symbol =
      record {
        tells_it = ap (λ b. b && is_dut1_second station second) (is.tells ∙ ap is_some e) ∙ here;
        symbol = ap (option_map (λ d. dut1_symbol station d second)) (is.value i e) ∙ ap Some (sym symbol);
      }

module _ (h : Hearing) (k : ℕ) (station : Station) (second : ℕ) (here : second ≡ (place_at h.sequence k).1) where
  by_test : (b : Bool) → tells station (costs_of h station) h.window.seconds h.sequence second ≡ b
      → sent_in h k station ≡ (if b then told_symbol station (costs_of h station) h.window.seconds h.sequence second else symbol_of_set station (costs_of h station k) (set_at station h.sequence k))
  by_test b e =
      sym (ap (λ (s : ℕ). if tells_one_value station h.window.seconds h.sequence && is_dut1_second station s then option_map (λ d. dut1_symbol station d s) (told_value station (costs_of h station) h.window.seconds h.sequence) else symbol_of_set station (costs_of h station k) (set_at station h.sequence k)) here)
      ∙ ap (λ (c : Bool). if c then told_symbol station (costs_of h station) h.window.seconds h.sequence second else symbol_of_set station (costs_of h station k) (set_at station h.sequence k)) e

  pub sent_by_value : (x : ℕ) → tells station (costs_of h station) h.window.seconds h.sequence second ≡ true
      → told_symbol station (costs_of h station) h.window.seconds h.sequence second ≡ Some x → Some x ≡ sent_in h k station
  sent_by_value x e is = sym (by_test true e ∙ is)

  pub sent_by_set : (o : Option ℕ) → tells station (costs_of h station) h.window.seconds h.sequence second ≡ false
      → o ≡ symbol_of_set station (costs_of h station k) (set_at station h.sequence k) → o ≡ sent_in h k station
  sent_by_set o e is = is ∙ sym (by_test false e)
