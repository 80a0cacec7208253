-- Which value of DUT1 costs least, by the numbers of the values.
use Rattle.std.proofs.Common.{◌≡◌, ℕ, ◌+◌, ◌<◌, ◌≤◌, Bool, true, false, ◌==◌, ◌&&◌, if◌then◌else◌, List, [], ◌∷◌, find, map, Some, None, option_map, unwrap_or, ℤ, refl, sym, ap, ◌∙◌, subst, arith}
use Rattle.std.specs.List.{list_all, range_with_len}
use Rattle.std.proofs.lemmas.List.Folds.{list_all-append, list_all-map}
use Rattle.std.proofs.lemmas.List.FromFn.{map-range_with_len_more}
use Rattle.signal_base.specs.declared.station.Station.{Station}
use Rattle.signal_base.specs.declared.station.Station.TheVariants.{Dcf77, Msf, Wwvb, Jjy}
use Rattle.signal_base.specs.declared.window.Window.{Window}
use Rattle.definitions.specs.codes.Allowed.{has_station}
use Rattle.definitions.specs.declared.sequence.Sequence.{Sequence}
use Rattle.definitions.specs.heard.Costs.{Costs, least, lies_in_one_day}
use Rattle.definitions.specs.heard.Dut1.{dut1_values, has_dut1}
use Rattle.formats.specs.Heard.{cheapest, tells_one_value, told_value}
use Rattle.formats.proofs.CheapestLaws.{IsBest}
use Rattle.plain_costs.specs.Tenths.{tenths_at, value_count}
use Rattle.plain_costs.proofs.ValueLaws.{all_values}
use Rattle.heard.specs.declared.told.Told.{Told}
use Rattle.heard.specs.Kept.{told_of}
use Rattle.heard.specs.Told.{IsTold}
use Rattle.heard.proofs.SymbolLaws.{cheapest_is}

-- how many values there are
pub few_values : (station : Station) → value_count station ≤ 19
few_values Dcf77 = omega arith
few_values Msf = omega arith
few_values Wwvb = omega arith
few_values Jjy = omega arith

pub some_values : (station : Station) → has_dut1 station ≡ true → 1 < value_count station
some_values Dcf77 has = absurd cc
some_values Msf has = omega arith
some_values Wwvb has = omega arith
some_values Jjy has = absurd cc

-- what is found among things that are made one by one
module _ {A B : Type 0} (g : A → B) where
  found_made : (test : B → Bool) (xs : List A) → find test (map g xs) ≡ option_map g (find (λ x. test (g x)) xs)
  found_made test [] = refl
  found_made test (x ∷ xs) = by_test (test (g x)) (found_made test xs)
    where
      by_test : (b : Bool) → find test (map g xs) ≡ option_map g (find (λ y. test (g y)) xs)
          → (if b then Some (g x) else find test (map g xs)) ≡ option_map g (if b then Some x else find (λ y. test (g y)) xs)
      by_test true rest = refl
      by_test false rest = rest

  made_twice : (cost : B → ℕ) (xs : List A) → map cost (map g xs) ≡ map (λ x. cost (g x)) xs
  made_twice cost [] = refl
  made_twice cost (x ∷ xs) = ap (λ cs. cost (g x) ∷ cs) (made_twice cost xs)

  pub cheapest_made : (cost : B → ℕ) (xs : List A) → cheapest cost (map g xs) ≡ option_map g (cheapest (λ x. cost (g x)) xs)
  cheapest_made cost xs =
      ap (λ (cs : List ℕ). find (λ y. cost y == unwrap_or (least cs) 0) (map g xs)) (made_twice cost xs)
      ∙ found_made (λ y. cost y == unwrap_or (least (map (λ x. cost (g x)) xs)) 0) xs

-- the value with the best number is the cheapest
pub value_is : (station : Station) (cost : ℤ → ℕ) (y : ℕ) → IsBest (λ i. cost (tenths_at station i)) (value_count station) y
    → cheapest cost (dut1_values station) ≡ Some (tenths_at station y)
value_is station cost y best =
    ap (cheapest cost) (sym (all_values station))
    ∙ cheapest_made (tenths_at station) cost (range_with_len 0 (value_count station))
    ∙ ap (option_map (tenths_at station)) (cheapest_is (λ i. cost (tenths_at station i)) (value_count station) y best)

-- a test of one number more
and_true : (b : Bool) → (b && true) ≡ b
and_true true = refl
and_true false = refl

pub all_more : (p : ℕ → Bool) (n : ℕ) → list_all p (range_with_len 0 (n + 1)) ≡ (list_all p (range_with_len 0 n) && p n)
all_more p n =
    let self = λ (k : ℕ). k in
    sym (list_all-map p self (range_with_len 0 (n + 1))) ∙ ap (list_all p) (map-range_with_len_more self 0 n n (omega arith))
    ∙ list_all-append p (map self (range_with_len 0 n)) (n ∷ [])
    ∙ ap (λ b. b && (p n && true)) (list_all-map p self (range_with_len 0 n))
    ∙ ap (λ b. list_all p (range_with_len 0 n) && b) (and_true (p n))

-- what is told where one value is, and where none is
pub one_told : (station : Station) (costs : ℕ → ℕ → ℕ) (n : ℕ) (q : Sequence) (i : ℕ) → has_dut1 station ≡ true → lies_in_one_day n q ≡ true
    → i < value_count station → told_value station costs n q ≡ Some (tenths_at station i) → IsTold station costs n q (Some i)
one_told station costs n q i has one known value = record {
  tells = ap (λ b. b && lies_in_one_day n q) has ∙ one;
  known = λ j e. let same : i ≡ j = cc in subst (λ k. k < value_count station) same known;
  value = λ j e. let same : i ≡ j = cc in value ∙ ap (λ k. Some (tenths_at station k)) same;
}

pub none_told : (station : Station) (costs : ℕ → ℕ → ℕ) (n : ℕ) (q : Sequence) → tells_one_value station n q ≡ false → IsTold station costs n q None
none_told station costs n q is = record { tells = is; known = λ i e. absurd cc; value = λ i e. absurd cc }

-- what the stations of a window tell
pub all_told : (told : Told) (window : Window) (costs : Costs) (q : Sequence)
    → (has_station window.stations Msf ≡ true → IsTold Msf (costs Msf) window.seconds q told.msf)
    → (has_station window.stations Wwvb ≡ true → IsTold Wwvb (costs Wwvb) window.seconds q told.wwvb)
    → (station : Station) → has_station window.stations station ≡ true → IsTold station (costs station) window.seconds q (told_of told station)
all_told told window costs q msf wwvb Dcf77 heard = none_told Dcf77 (costs Dcf77) window.seconds q refl
all_told told window costs q msf wwvb Msf heard = msf heard
all_told told window costs q msf wwvb Wwvb heard = wwvb heard
all_told told window costs q msf wwvb Jjy heard = none_told Jjy (costs Jjy) window.seconds q refl
