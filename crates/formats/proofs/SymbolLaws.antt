-- Which symbol is sent: one that the second may carry, wherever it is scored; and the value of DUT1 that a report tells.
use Rattle.std.proofs.Common.{◌≡◌, ◌≢◌, ℕ, ◌<◌, inl, inr, Bool, true, false, not, ◌==◌, ◌&&◌, if◌then◌else◌, List, [], ◌∷◌, filter, find, Option, Some, None, option_map, ℤ, refl, sym, ap, ◌∙◌, subst, arith}
use Rattle.std.proofs.lemmas.Bool.{and_parts, ne_eqb}
use Rattle.signal_base.specs.Mask.{has_bit}
use Rattle.signal_base.specs.Waveform.{symbol_count}
use Rattle.signal_base.specs.declared.dut.Dut.TheVariants.{Absent, Free, Tenths}
use Rattle.signal_base.specs.declared.station.Station.{Station}
use Rattle.signal_base.specs.declared.station.Station.TheVariants.{Dcf77, Msf, Wwvb, Jjy}
use Rattle.definitions.specs.declared.sequence.Sequence.{Sequence}
use Rattle.definitions.specs.codes.Allowed.{IsSetOf}
use Rattle.definitions.specs.codes.Vocabulary.{free, only, unscored}
use Rattle.definitions.specs.time.Calendar.{minute_length}
use Rattle.definitions.specs.time.Places.{second_of}
use Rattle.definitions.specs.sequences.Walks.{place_at, set_at}
use Rattle.definitions.specs.heard.Dut1.{dut1_symbol, dut1_values, has_dut1, is_dut1_second}
use Rattle.definitions.specs.heard.Costs.{dut1_cost, dut_among, dut_of, least_dut1_cost, lies_in_one_day, symbols_of}
use Rattle.definitions.proofs.CheckLaws.{all_below, below}
use Rattle.definitions.proofs.Dut1Laws.{dut1_sets, dut1_symbols}
use Rattle.definitions.proofs.PlaceLaws.{within_minute}
use Rattle.definitions.proofs.SetLaws.{sent}
use Rattle.formats.specs.Heard.{best_symbol, cheapest, sent_symbol, symbol_of_set, tells_one_value, told_value}
use Rattle.formats.proofs.CheapestLaws.{IsBest, cheapest_is_best, found_passes, some_cheapest}

-- the symbol of a set is one of it, there is one where the set has some of the station's and is scored, and else none
of_set : (station : Station) (costs : ℕ → ℕ) (set x : ℕ) → symbol_of_set station costs set ≡ Some x → has_bit set x ≡ true
of_set station costs set x e = by_scored (set == unscored) e
  where
    by_scored : (b : Bool) → (if b then None else cheapest costs (filter (has_bit set) (symbols_of station))) ≡ Some x → has_bit set x ≡ true
    by_scored true f = absurd cc
    by_scored false f = found_passes _ (has_bit set) (symbols_of station) x f

no_set : (station : Station) (costs : ℕ → ℕ) (set : ℕ) → set ≡ unscored → symbol_of_set station costs set ≡ None
no_set station costs set e = ap (symbol_of_set station costs) e

-- a list has something
some_of : {A : Type 0} → List A → Bool
some_of [] = false
some_of (x ∷ xs) = true

not_none : {A : Type 0} (xs : List A) → some_of xs ≡ true → xs ≢ []
unfolding some_of
not_none xs some same = let none : some_of xs ≡ false = ap some_of same in cc

-- each set that is scored has one of the station's symbols
free_some : (station : Station) → some_of (filter (has_bit free) (symbols_of station)) ≡ true
unfolding some_of
free_some Dcf77 = refl
free_some Msf = refl
free_some Wwvb = refl
free_some Jjy = refl

each_some : (station : Station) → all_below (λ x. some_of (filter (has_bit (only x)) (symbols_of station))) (symbol_count station) ≡ true
unfolding some_of all_below
each_some Dcf77 = refl
each_some Msf = refl
each_some Wwvb = refl
each_some Jjy = refl

set_some : (station : Station) (set : ℕ) → IsSetOf station set → set ≢ unscored → some_of (filter (has_bit set) (symbols_of station)) ≡ true
set_some station set (inl e) scored = absurd (scored e)
set_some station set (inr (inl e)) scored = subst (λ m. some_of (filter (has_bit m) (symbols_of station)) ≡ true) (sym e) (free_some station)
set_some station set (inr (inr one)) scored =
    subst (λ m. some_of (filter (has_bit m) (symbols_of station)) ≡ true) (sym one.2)
    (below (λ x. some_of (filter (has_bit (only x)) (symbols_of station))) (symbol_count station) (each_some station) one.0 one.1)

some_symbol : (station : Station) (costs : ℕ → ℕ) (set : ℕ) → IsSetOf station set → set ≢ unscored → symbol_of_set station costs set ≢ None
some_symbol station costs set is scored none =
    some_cheapest costs xs (not_none xs (set_some station set is scored)) (sym is_cheapest ∙ none)
  where
    xs : List ℕ
    xs = filter (has_bit set) (symbols_of station)

    is_cheapest : symbol_of_set station costs set ≡ cheapest costs xs
    is_cheapest = ap (λ b. if b then None else cheapest costs xs) (ne_eqb set unscored scored)

-- a station that sends DUT1 has values of it
some_values : (station : Station) → has_dut1 station ≡ true → some_of (dut1_values station) ≡ true
unfolding some_of
some_values Dcf77 has = absurd cc
some_values Msf has = refl
some_values Wwvb has = refl
some_values Jjy has = absurd cc

-- a station in slot k of n
module _ (station : Station) (costs : ℕ → ℕ → ℕ) (n : ℕ) (q : Sequence) (k : ℕ) where
  abbrev s : ℕ
  s = second_of (place_at q k)

  -- the slot tells a value of DUT1
  abbrev tells : Bool
  tells = tells_one_value station n q && is_dut1_second station s

  -- the symbol, by whether it does
  abbrev symbol : Bool → Option ℕ
  symbol b = if b then option_map (λ d. dut1_symbol station d s) (told_value station costs n q) else symbol_of_set station (costs k) (set_at station q k)

  free_where_told : tells ≡ true → set_at station q k ≡ free
  free_where_told e = dut1_sets station q.announced (place_at q k).0 (place_at q k).1 (and_parts (tells_one_value station n q) (is_dut1_second station s) e).1

  allowed_by : (x : ℕ) (b : Bool) → tells ≡ b → symbol b ≡ Some x → has_bit (set_at station q k) x ≡ true
  allowed_by x false e f = of_set station (costs k) (set_at station q k) x f
  allowed_by x true e f = by_value (told_value station costs n q) f
    where
      by_value : (o : Option ℤ) → option_map (λ d. dut1_symbol station d s) o ≡ Some x → has_bit (set_at station q k) x ≡ true
      by_value None g = absurd cc
      by_value (Some d) g =
          let same : dut1_symbol station d s ≡ x = cc in
          subst (λ m. has_bit m x ≡ true) (sym (free_where_told e)) (subst (λ y. has_bit free y ≡ true) same (dut1_symbols station d s))

  pub allowed_law : (x : ℕ) → sent_symbol station costs n q k ≡ Some x → has_bit (set_at station q k) x ≡ true
  allowed_law x e = allowed_by x tells refl e

  scored_by : q.second < minute_length q.announced q.first → set_at station q k ≢ unscored → (b : Bool) → tells ≡ b → symbol b ≢ None
  scored_by first scored false e none =
      some_symbol station (costs k) (set_at station q k) (sent station q.announced (place_at q k).0 (place_at q k).1 (within_minute q first k)) scored none
  scored_by first scored true e none = some_cheapest (dut1_cost station costs n q) (dut1_values station) (not_none (dut1_values station) values) (by_value (told_value station costs n q) none)
    where
      has : has_dut1 station ≡ true
      has = (and_parts (has_dut1 station) (lies_in_one_day n q) (and_parts (tells_one_value station n q) (is_dut1_second station s) e).0).0

      values : some_of (dut1_values station) ≡ true
      values = some_values station has

      by_value : (o : Option ℤ) → option_map (λ d. dut1_symbol station d s) o ≡ None → o ≡ None
      by_value None g = refl
      by_value (Some d) g = absurd cc

  pub scored_law : q.second < minute_length q.announced q.first → set_at station q k ≢ unscored → sent_symbol station costs n q k ≢ None
  scored_law first scored = scored_by first scored tells refl

  silent_by : set_at station q k ≡ unscored → (b : Bool) → tells ≡ b → symbol b ≡ None
  silent_by e false f = no_set station (costs k) (set_at station q k) e
  silent_by e true f = absurd (let clash : unscored ≡ free = sym e ∙ free_where_told f in omega (arith, clash))

  pub not_scored_law : set_at station q k ≡ unscored → sent_symbol station costs n q k ≡ None
  not_scored_law e = silent_by e tells refl

-- the one value among those that cost least is the first of them
only_value : (test : ℤ → Bool) (ds : List ℤ) (d : ℤ) → dut_among (filter test ds) ≡ Tenths d → find test ds ≡ Some d
only_value test [] d e = absurd cc
only_value test (c ∷ ds) d e = by_test (test c) (only_value test ds d) e
  where
    alone : (cs : List ℤ) → dut_among (c ∷ cs) ≡ Tenths d → Some c ≡ Some d
    alone [] f = let same : c ≡ d = cc in ap Some same
    alone (b ∷ cs) f = absurd cc

    by_test : (b : Bool) → (dut_among (filter test ds) ≡ Tenths d → find test ds ≡ Some d) → dut_among (if b then c ∷ filter test ds else filter test ds) ≡ Tenths d → (if b then Some c else find test ds) ≡ Some d
    by_test true behind f = alone (filter test ds) f
    by_test false behind f = behind f

pub dut1_law : (station : Station) (costs : ℕ → ℕ → ℕ) (n : ℕ) (q : Sequence) (d : ℤ) → dut_of station costs n q ≡ Tenths d → told_value station costs n q ≡ Some d
dut1_law station costs n q d e = by_case (not (has_dut1 station)) (not (lies_in_one_day n q)) e
  where
    test : ℤ → Bool
    test c = dut1_cost station costs n q c == least_dut1_cost station costs n q

    by_case : (a b : Bool) → (if a then Absent else if b then Free else dut_among (filter test (dut1_values station))) ≡ Tenths d → find test (dut1_values station) ≡ Some d
    by_case true b f = absurd cc
    by_case false true f = absurd cc
    by_case false false f = only_value test (dut1_values station) d f

pub best_law : (station : Station) (costs : ℕ → ℕ) → IsBest costs (symbol_count station) (best_symbol station costs)
best_law Dcf77 costs = cheapest_is_best costs 2
best_law Msf costs = cheapest_is_best costs 4
best_law Wwvb costs = cheapest_is_best costs 2
best_law Jjy costs = cheapest_is_best costs 2
