-- What a sequence costs, from the sum of its sets and what DUT1 adds, where its walk has 60 seconds in each minute, but perhaps for
-- the last one, in which it ends before the sixty-first.
use Rattle.std.proofs.Common.{◌≡◌, ℕ, ◌+◌, ◌*◌, ◌/◌, ◌%◌, ◌^◌, ◌<◌, ◌≤◌, Bool, true, false, ◌==◌, if◌then◌else◌, ℤ, List, [], ◌∷◌, length, map, fold, min, unwrap_or, refl, sym, ap, ◌∙◌, arith}
use Rattle.signal_base.specs.declared.station.Station.{Station}
use Rattle.signal_base.specs.declared.station.Station.TheVariants.{Dcf77, Msf, Wwvb, Jjy}
use Rattle.signal_base.specs.Waveform.{symbol_count}
use Rattle.definitions.specs.declared.sequence.Sequence.{Sequence}
use Rattle.definitions.specs.time.Calendar.{minute_length}
use Rattle.definitions.specs.codes.Allowed.{allowed}
use Rattle.definitions.specs.sequences.Walks.{place_at, set_at}
use Rattle.definitions.specs.heard.Costs.{cost_outside_dut1, dut1_cost, least, least_dut1_cost, lies_in_one_day, sum_below}
use Rattle.definitions.specs.heard.Dut1.{dut1_symbol, dut1_values, has_dut1, is_dut1_second}
use Rattle.definitions.proofs.CostLaws.{sum_below_bound, sum_below_same}
use Rattle.definitions.proofs.Dut1Laws.{dut1_sets}
use Rattle.symbol_cost.specs.Grid.{cost_at}
use Rattle.symbol_cost.specs.declared.limits.TheConstants.{RECEIVER_COST}
use Rattle.slot_columns.specs.Parts.{most_cost}
use Rattle.slot_columns.proofs.SetLaws.{none_chosen, only_costs}
use Rattle.walk_costs.specs.Dates.{IsAdded, free_part, free_set, least_told, part_cost, told_part, told_set}
use Rattle.walk_costs.specs.Walks.{AreSmall, PricedParts, cost_of, last_minute}
use Rattle.walk_costs.proofs.SumLaws.{cost_in, made_part, sum_of_two, sums_of_two}
use Rattle.walk_costs.proofs.ToldLaws.{bit_below}
use Rattle.walk_costs.proofs.PlaceLaws.{nominal_but_last, one_day}

two_symbols : (station : Station) → 2 ≤ symbol_count station
two_symbols Dcf77 = omega arith
two_symbols Msf = omega arith
two_symbols Wwvb = omega arith
two_symbols Jjy = omega arith

-- the least of costs that are the same
map_same : (f g : ℤ → ℕ) (ds : List ℤ) → ((d : ℤ) → f d ≡ g d) → map f ds ≡ map g ds
map_same f g [] same = refl
map_same f g (d ∷ ds) same = ap (λ c. c ∷ map f ds) (same d) ∙ ap (λ cs. g d ∷ cs) (map_same f g ds same)

fold_le : (b : ℕ) (cs : List ℕ) → fold min b cs ≤ b
fold_le b [] = omega arith
fold_le b (c ∷ cs) = omega (arith, fold_le (min b c) cs)

some_of : (ds : List ℤ) (cost : ℤ → ℕ) → 0 < length ds → (d : ℤ) × (unwrap_or (least (map cost ds)) 0 ≤ cost d)
some_of [] cost some = absurd (omega arith)
some_of (d ∷ ds) cost some = (d, fold_le (cost d) (map cost ds))

some_value : (station : Station) → has_dut1 station ≡ true → 0 < length (dut1_values station)
some_value Dcf77 has = absurd cc
some_value Msf has = omega arith
some_value Wwvb has = omega arith
some_value Jjy has = absurd cc

-- the cost of the sequence, from the cost of its sets
pub record IsTotal (w : PricedParts) (announced : Bool) (p t0 sets added : ℕ) : Type 0 where
  pub cost : sets + added ≡ cost_of w announced p t0
  pub bound : sets + added ≤ most_cost w.grid

module _ (w : PricedParts) (small : AreSmall w.grid) (announced : Bool) (p t0 : ℕ) (second : p < 60)
    (short : (t : ℕ) → t0 ≤ t → t < last_minute w p t0 → minute_length announced t ≡ 60) where
  abbrev pub n : ℕ
  n = length w.grid.rows

  abbrev pub q : Sequence
  q = record { first = t0; second = p; announced = announced }

  -- what the sets cost
  abbrev pub all_sets : ℕ
  all_sets = sum_below n (λ k. cost_in w.grid k (set_at w.grid.station q k))

  pub place_is : (k : ℕ) → k < n → place_at q k ≡ (t0 + (p + k) / 60, (p + k) % 60)
  place_is k within = nominal_but_last q n second short k within

  -- in a second of DUT1 each set is free, so they cost what the free ones do, and the others what they do
  outside_slot : (k : ℕ) → k < n
      → (if is_dut1_second w.grid.station (place_at q k).1 then 0 else cost_in w.grid k (set_at w.grid.station q k)) + cost_in w.grid k (free_set w.grid.station ((p + k) % 60))
      ≡ cost_in w.grid k (set_at w.grid.station q k) + 0
  outside_slot k within =
      let st = w.grid.station in
      let s : ℕ = (p + k) % 60 in
      let set : ℕ = set_at st q k in
      let is : set ≡ allowed st announced (t0 + (p + k) / 60, s) = ap (allowed st announced) (place_is k within) in
      ap (λ (place : ℕ × ℕ). (if is_dut1_second st place.1 then 0 else cost_in w.grid k set) + cost_in w.grid k (free_set st s)) (place_is k within)
      ∙ by_test (is_dut1_second st s) refl set is
    where
      by_test : (t : Bool) → is_dut1_second w.grid.station ((p + k) % 60) ≡ t → (set : ℕ) → set ≡ allowed w.grid.station announced (t0 + (p + k) / 60, (p + k) % 60)
          → (if t then 0 else cost_in w.grid k set) + cost_in w.grid k (if t then 3 else 0) ≡ cost_in w.grid k set + 0
      by_test true e set is = omega (arith, ap (cost_in w.grid k) (is ∙ dut1_sets w.grid.station announced (t0 + (p + k) / 60) ((p + k) % 60) e))
      by_test false e set is = omega (arith, none_chosen w.grid.station (cost_at w.grid.rows k))

  zeros : sum_below n (λ k. 0) ≡ 0
  zeros = omega (arith, sum_below_bound n 0 (λ k. 0) (λ k within. omega arith))

  outside : cost_outside_dut1 w.grid.station (cost_at w.grid.rows) n q + part_cost w.grid p (free_part w.grid.station) ≡ all_sets
  unfolding free_part
  outside =
      let st = w.grid.station in
      let sums = sums_of_two n (λ k. if is_dut1_second st (place_at q k).1 then 0 else cost_in w.grid k (set_at st q k)) (λ k. cost_in w.grid k (free_set st ((p + k) % 60)))
      (λ k. cost_in w.grid k (set_at st q k)) (λ k. 0) outside_slot in
      omega (arith, sums, zeros, made_part w.grid p (free_set st) (free_part st) refl)

  -- where a value is told
  told_slot : (d : ℤ) (k : ℕ) → k < n
      → (let s = (place_at q k).1 in if is_dut1_second w.grid.station s then cost_at w.grid.rows k (dut1_symbol w.grid.station d s) else 0)
      ≡ cost_in w.grid k (told_set w.grid.station d ((p + k) % 60))
  told_slot d k within =
      let st = w.grid.station in
      ap (λ (place : ℕ × ℕ). if is_dut1_second st place.1 then cost_at w.grid.rows k (dut1_symbol st d place.1) else 0) (place_is k within)
      ∙ by_test (is_dut1_second st ((p + k) % 60))
    where
      by_test : (t : Bool) → (if t then cost_at w.grid.rows k (dut1_symbol w.grid.station d ((p + k) % 60)) else 0)
          ≡ cost_in w.grid k (if t then 2 ^ dut1_symbol w.grid.station d ((p + k) % 60) else 0)
      by_test true =
          sym (only_costs w.grid.station (cost_at w.grid.rows k) (dut1_symbol w.grid.station d ((p + k) % 60))
          (omega (arith, bit_below w.grid.station d ((p + k) % 60), two_symbols w.grid.station)))
      by_test false = sym (none_chosen w.grid.station (cost_at w.grid.rows k))

  told : (d : ℤ) → dut1_cost w.grid.station (cost_at w.grid.rows) n q d ≡ part_cost w.grid p (told_part w.grid.station d)
  unfolding told_part
  told d =
      let st = w.grid.station in
      sum_below_same n (λ k. let s = (place_at q k).1 in if is_dut1_second st s then cost_at w.grid.rows k (dut1_symbol st d s) else 0)
      (λ k. cost_in w.grid k (told_set st d ((p + k) % 60))) (told_slot d)
      ∙ sym (made_part w.grid p (told_set st d) (told_part st d) refl)

  least_is : least_dut1_cost w.grid.station (cost_at w.grid.rows) n q ≡ least_told w.grid p
  least_is =
      ap (λ cs. unwrap_or (least cs) 0)
      (map_same (dut1_cost w.grid.station (cost_at w.grid.rows) n q) (λ d. part_cost w.grid p (told_part w.grid.station d)) (dut1_values w.grid.station) told)

  -- no slot costs more than a set can
  slot_bound : (d : ℤ) (k : ℕ) → k < n
      → (if is_dut1_second w.grid.station (place_at q k).1 then 0 else cost_in w.grid k (set_at w.grid.station q k))
      + (let s = (place_at q k).1 in if is_dut1_second w.grid.station s then cost_at w.grid.rows k (dut1_symbol w.grid.station d s) else 0)
      ≤ w.grid.receivers * RECEIVER_COST
  slot_bound d k within = by_test (is_dut1_second w.grid.station (place_at q k).1)
    where
      by_test : (t : Bool) → (if t then 0 else cost_in w.grid k (set_at w.grid.station q k))
          + (if t then cost_at w.grid.rows k (dut1_symbol w.grid.station d (place_at q k).1) else 0) ≤ w.grid.receivers * RECEIVER_COST
      by_test true =
          let x : ℕ = dut1_symbol w.grid.station d (place_at q k).1 in
          omega (
            arith,
            small k (2 ^ x) within,
            only_costs w.grid.station (cost_at w.grid.rows k) x (omega (arith, bit_below w.grid.station d (place_at q k).1, two_symbols w.grid.station)),
          )
      by_test false = omega (arith, small k (set_at w.grid.station q k) within)

  pub sets_bound : all_sets ≤ most_cost w.grid
  sets_bound = sum_below_bound n (w.grid.receivers * RECEIVER_COST) (λ k. cost_in w.grid k (set_at w.grid.station q k)) (λ k within. small k (set_at w.grid.station q k) within)

  told_bound : has_dut1 w.grid.station ≡ true
      → cost_outside_dut1 w.grid.station (cost_at w.grid.rows) n q + least_dut1_cost w.grid.station (cost_at w.grid.rows) n q ≤ most_cost w.grid
  told_bound has =
      let st = w.grid.station in
      let value = some_of (dut1_values st) (dut1_cost st (cost_at w.grid.rows) n q) (some_value st has) in
      let f = λ (k : ℕ). if is_dut1_second st (place_at q k).1 then 0 else cost_in w.grid k (set_at st q k) in
      let g = λ (k : ℕ). (let s = (place_at q k).1 in if is_dut1_second st s then cost_at w.grid.rows k (dut1_symbol st value.0 s) else 0) in
      omega (arith, value.1, sum_of_two n f g, sum_below_bound n (w.grid.receivers * RECEIVER_COST) (λ k. f k + g k) (slot_bound value.0))

  total_by : (has one : Bool) (added : ℕ) → has_dut1 w.grid.station ≡ has → lies_in_one_day n q ≡ one
      → (one ≡ true → IsAdded w.grid p added) → (one ≡ false → added ≡ 0) → IsTotal w announced p t0 all_sets added
  total_by true true added has one more none =
      let sum : all_sets + added ≡ cost_outside_dut1 w.grid.station (cost_at w.grid.rows) n q + least_dut1_cost w.grid.station (cost_at w.grid.rows) n q =
      omega (arith, outside, (more refl).some has, least_is) in
      record {
        cost = sum ∙ rw (has, one) refl;
        bound = omega (arith, sum, told_bound has);
      }
  total_by true false added has one more none =
      let nothing = none refl in
      record { cost = ap (λ a. all_sets + a) nothing ∙ rw (has, one) (omega arith); bound = omega (arith, nothing, sets_bound) }
  total_by false true added has one more none =
      let nothing = (more refl).none has in
      record { cost = ap (λ a. all_sets + a) nothing ∙ rw has (omega arith); bound = omega (arith, nothing, sets_bound) }
  total_by false false added has one more none =
      let nothing = none refl in
      record { cost = ap (λ a. all_sets + a) nothing ∙ rw has (omega arith); bound = omega (arith, nothing, sets_bound) }

  -- by the minute in which the walk ends
  pub total : (added : ℕ) → ((last_minute w p t0 / 1440 == t0 / 1440) ≡ true → IsAdded w.grid p added)
      → ((last_minute w p t0 / 1440 == t0 / 1440) ≡ false → added ≡ 0) → IsTotal w announced p t0 all_sets added
  total added more none =
      total_by (has_dut1 w.grid.station) (last_minute w p t0 / 1440 == t0 / 1440) added refl (one_day q n second short) more none
