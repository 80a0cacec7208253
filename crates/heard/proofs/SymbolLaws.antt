-- Which symbol is the cheapest, of all and of a set.
use Rattle.std.proofs.Common.{◌≡◌, ℕ, zero, suc, ◌+◌, ◌<◌, ◌≤◌, inl, inr, ◌==◌, nat_lt, Bool, true, false, if◌then◌else◌, min, Option, Some, None, unwrap_or, refl, sym, ap, ◌∙◌, subst, arith, eq-eqb}
use Rattle.std.specs.Int.{trailing_zeros, w8}
use Rattle.std.specs.Int.Count.{count_trailing_zeros}
use Rattle.std.specs.List.{range_with_len}
use Rattle.std.proofs.lemmas.Bool.{cases_lt, cases_order, lt-ltb, ltb-true, ltb-false, ne_eqb}
use Rattle.signal_base.specs.declared.station.Station.{Station}
use Rattle.signal_base.specs.declared.station.Station.TheVariants.{Dcf77, Msf, Wwvb, Jjy}
use Rattle.signal_base.specs.Waveform.{symbol_count}
use Rattle.definitions.specs.codes.Allowed.{IsSetOf}
use Rattle.definitions.specs.codes.Vocabulary.{only, unscored}
use Rattle.definitions.specs.heard.Costs.{set_cost}
use Rattle.formats.specs.Heard.{best_symbol, cheapest, symbol_of_set}
use Rattle.formats.proofs.CheapestLaws.{IsBest, cheapest_is_best, some_cheapest}
use Rattle.formats.proofs.SymbolLaws.{best_law}

-- how many symbols a station has
pub few_symbols : (station : Station) → symbol_count station ≤ 5
few_symbols Dcf77 = omega arith
few_symbols Msf = omega arith
few_symbols Wwvb = omega arith
few_symbols Jjy = omega arith

pub two_symbols : (station : Station) → 2 < symbol_count station
two_symbols Dcf77 = omega arith
two_symbols Msf = omega arith
two_symbols Wwvb = omega arith
two_symbols Jjy = omega arith

-- what the set of one symbol costs
pub one_costs : (station : Station) (costs : ℕ → ℕ) (x : ℕ) → x < symbol_count station → set_cost station costs (only x) ≡ costs x
one_costs Dcf77 costs zero lt = refl
one_costs Dcf77 costs (suc zero) lt = refl
one_costs Dcf77 costs (suc (suc zero)) lt = refl
one_costs Dcf77 costs (suc (suc (suc x))) lt = absurd (omega (arith, lt))
one_costs Msf costs zero lt = refl
one_costs Msf costs (suc zero) lt = refl
one_costs Msf costs (suc (suc zero)) lt = refl
one_costs Msf costs (suc (suc (suc zero))) lt = refl
one_costs Msf costs (suc (suc (suc (suc zero)))) lt = refl
one_costs Msf costs (suc (suc (suc (suc (suc x))))) lt = absurd (omega (arith, lt))
one_costs Wwvb costs zero lt = refl
one_costs Wwvb costs (suc zero) lt = refl
one_costs Wwvb costs (suc (suc zero)) lt = refl
one_costs Wwvb costs (suc (suc (suc x))) lt = absurd (omega (arith, lt))
one_costs Jjy costs zero lt = refl
one_costs Jjy costs (suc zero) lt = refl
one_costs Jjy costs (suc (suc zero)) lt = refl
one_costs Jjy costs (suc (suc (suc x))) lt = absurd (omega (arith, lt))

-- the best of one, and of one more
pub best_of_one : (costs : ℕ → ℕ) → IsBest costs 1 0
best_of_one costs =
    (omega arith, λ x lt. (let none : x ≡ 0 = omega arith in subst (λ y. costs 0 ≤ costs y) (sym none) (omega arith)), λ x lt. absurd (omega (arith, lt)))

pub best_more : (costs : ℕ → ℕ) (n y : ℕ) → IsBest costs n y → IsBest costs (n + 1) (if nat_lt (costs n) (costs y) then n else y)
best_more costs n y best = by_test (nat_lt (costs n) (costs y)) refl
  where
    by_test : (b : Bool) → nat_lt (costs n) (costs y) ≡ b → IsBest costs (n + 1) (if b then n else y)
    by_test true e =
        let less = ltb-true (costs n) (costs y) e in (
          omega arith,
          λ x lt. elim (cases_order x n) [
            | inl same ↦ subst (λ z. costs n ≤ costs z) (sym same) (omega arith)
            | inr apart ↦ let within : x < n = elim apart [ inl before ↦ before | inr after ↦ absurd (omega arith) ] in omega (arith, less, best.1 x within)
          ],
          λ x lt. omega (arith, less, best.1 x lt),
        )
    by_test false e =
        let more = ltb-false (costs n) (costs y) e in (
          omega (arith, best.0),
          λ x lt. elim (cases_order x n) [
            | inl same ↦ subst (λ z. costs y ≤ costs z) (sym same) more
            | inr apart ↦ best.1 x (elim apart [ inl before ↦ before | inr after ↦ absurd (omega arith) ])
          ],
          best.2,
        )

-- there is one best
pub best_is_one : (costs : ℕ → ℕ) (n y z : ℕ) → IsBest costs n y → IsBest costs n z → y ≡ z
best_is_one costs n y z a b =
    elim (cases_order y z) [
      | inl same ↦ same
      | inr apart ↦ elim apart [
        | inl before ↦ absurd (omega (arith, b.2 y before, a.1 z b.0))
        | inr after ↦ absurd (omega (arith, a.2 z after, b.1 y a.0))
      ]
    ]

pub best_is : (station : Station) (costs : ℕ → ℕ) (y : ℕ) → IsBest costs (symbol_count station) y → y ≡ best_symbol station costs
best_is station costs y best = best_is_one costs (symbol_count station) y (best_symbol station costs) best (best_law station costs)

-- the cheapest of the numbers below n
pub cheapest_is : (costs : ℕ → ℕ) (n y : ℕ) → IsBest costs n y → cheapest costs (range_with_len 0 n) ≡ Some y
cheapest_is costs zero y best = absurd (omega (arith, best.0))
cheapest_is costs (suc m) y best = by_found (cheapest costs (range_with_len 0 (suc m))) refl
  where
    by_found : (o : Option ℕ) → cheapest costs (range_with_len 0 (suc m)) ≡ o → o ≡ Some y
    by_found None e = absurd (some_cheapest costs (range_with_len 0 (suc m)) (λ f. cc) e)
    by_found (Some z) e =
        ap Some (best_is_one costs (suc m) z y (subst (λ (o : Option ℕ). IsBest costs (suc m) (unwrap_or o 0)) e (cheapest_is_best costs m)) best)

-- the symbol of a set: none where the second isn't scored, one of two where it is free, and else the only one
pub of_unscored : (station : Station) (costs : ℕ → ℕ) (set : ℕ) → set ≡ unscored → symbol_of_set station costs set ≡ None
of_unscored station costs set e = ap (symbol_of_set station costs) e

first_of_two : (a b : ℕ) → ◌≡◌ {A = Option ℕ} (if a == min a b then Some 0 else if b == min a b then Some 1 else None) (Some (if nat_lt b a then 1 else 0))
first_of_two a b =
    elim (cases_lt b a) [
      | inl less ↦ (let first : (a == min a b) ≡ false = ne_eqb a (min a b) (λ e. omega (arith, e, less)) in let second : (b == min a b) ≡ true = eq-eqb b (min a b) (omega arith) in let is : nat_lt b a ≡ true = lt-ltb b a less in rw (first, second, is) refl)
      | inr more ↦ (let first : (a == min a b) ≡ true = eq-eqb a (min a b) (omega arith) in let is : nat_lt b a ≡ false = not_less b a more in rw (first, is) refl)
    ]
  where
    not_less : (b a : ℕ) → a ≤ b → nat_lt b a ≡ false
    not_less b a more = grind arith

pub of_free : (station : Station) (costs : ℕ → ℕ) (set : ℕ) → set ≡ 3 → symbol_of_set station costs set ≡ Some (if nat_lt (costs 1) (costs 0) then 1 else 0)
of_free station costs set e = ap (symbol_of_set station costs) e ∙ by_station station
  where
    by_station : (s : Station) → symbol_of_set s costs 3 ≡ Some (if nat_lt (costs 1) (costs 0) then 1 else 0)
    by_station Dcf77 = first_of_two (costs 0) (costs 1)
    by_station Msf = first_of_two (costs 0) (costs 1)
    by_station Wwvb = first_of_two (costs 0) (costs 1)
    by_station Jjy = first_of_two (costs 0) (costs 1)

only_found : (costs : ℕ → ℕ) (x : ℕ) → (if costs x == costs x then Some x else None) ≡ Some x
only_found costs x = ap (λ b. if b then Some x else None) (eq-eqb (costs x) (costs x) refl)

pub of_one : (station : Station) (costs : ℕ → ℕ) (x : ℕ) → x < symbol_count station → symbol_of_set station costs (only x) ≡ Some x
of_one Dcf77 costs zero lt = only_found costs 0
of_one Dcf77 costs (suc zero) lt = only_found costs 1
of_one Dcf77 costs (suc (suc zero)) lt = only_found costs 2
of_one Dcf77 costs (suc (suc (suc x))) lt = absurd (omega (arith, lt))
of_one Msf costs zero lt = only_found costs 0
of_one Msf costs (suc zero) lt = only_found costs 1
of_one Msf costs (suc (suc zero)) lt = only_found costs 2
of_one Msf costs (suc (suc (suc zero))) lt = only_found costs 3
of_one Msf costs (suc (suc (suc (suc zero)))) lt = only_found costs 4
of_one Msf costs (suc (suc (suc (suc (suc x))))) lt = absurd (omega (arith, lt))
of_one Wwvb costs zero lt = only_found costs 0
of_one Wwvb costs (suc zero) lt = only_found costs 1
of_one Wwvb costs (suc (suc zero)) lt = only_found costs 2
of_one Wwvb costs (suc (suc (suc x))) lt = absurd (omega (arith, lt))
of_one Jjy costs zero lt = only_found costs 0
of_one Jjy costs (suc zero) lt = only_found costs 1
of_one Jjy costs (suc (suc zero)) lt = only_found costs 2
of_one Jjy costs (suc (suc (suc x))) lt = absurd (omega (arith, lt))

-- the place of the only bit
place_of_bit : (x : ℕ) → x < 5 → trailing_zeros w8 (only x) ≡ x
unfolding count_trailing_zeros
place_of_bit zero lt = refl
place_of_bit (suc zero) lt = refl
place_of_bit (suc (suc zero)) lt = refl
place_of_bit (suc (suc (suc zero))) lt = refl
place_of_bit (suc (suc (suc (suc zero)))) lt = refl
place_of_bit (suc (suc (suc (suc (suc x))))) lt = absurd (omega (arith, lt))

-- the symbol of a set that is neither
pub record IsOnly (station : Station) (costs : ℕ → ℕ) (set : ℕ) : Type 0 where
  pub symbol : Some (trailing_zeros w8 set) ≡ symbol_of_set station costs set
  pub known : trailing_zeros w8 set < symbol_count station

pub of_set : (station : Station) (costs : ℕ → ℕ) (set : ℕ) → IsSetOf station set → (set ≡ unscored → ⊥) → (set ≡ 3 → ⊥) → IsOnly station costs set
of_set station costs set (inl e) scored choice = absurd (scored e)
of_set station costs set (inr (inl e)) scored choice = absurd (choice e)
of_set station costs set (inr (inr (x, known, e))) scored choice =
    let place = place_of_bit x (omega (arith, known, few_symbols station)) in
    subst (IsOnly station costs) (sym e)
    (record { symbol = ap Some place ∙ sym (of_one station costs x known); known = omega (arith, place, known) })
