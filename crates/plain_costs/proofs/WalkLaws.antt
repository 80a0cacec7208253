-- What a walk costs, slot by slot.
use Rattle.std.proofs.Common.{◌≡◌, ◌==◌, ◌+◌, ◌*◌, ◌/◌, ◌<◌, ◌≤◌, ℕ, zero, suc, Bool, true, false, ◌&&◌, if◌then◌else◌, List, [], ◌∷◌, map, replicate, slice_index, refl, sym, ap, ◌∙◌, arith}
use Rattle.std.specs.List.{list_all, range_with_len}
use Rattle.std.proofs.Math.Nat.{mul-le-mul_left}
use Rattle.std.proofs.lemmas.List.Folds.{list_all-append, list_all-map}
use Rattle.std.proofs.lemmas.List.FromFn.{map-range_with_len_more}
use Rattle.signal_base.specs.declared.limits.TheConstants.{GREATEST_COST, MOST_RECEIVERS, MOST_SECONDS}
use Rattle.signal_base.specs.declared.station.Station.{Station}
use Rattle.symbol_cost.specs.declared.limits.TheConstants.{RECEIVER_COST}
use Rattle.definitions.specs.declared.sequence.Sequence.{Sequence}
use Rattle.definitions.specs.time.Calendar.{minutes_per_day}
use Rattle.definitions.specs.sequences.Walks.{place_at, set_at}
use Rattle.definitions.specs.heard.Costs.{lies_in_one_day, set_cost}
use Rattle.definitions.specs.heard.Dut1.{dut1_symbol, is_dut1_second}
use Rattle.definitions.proofs.CostLaws.{sum_below_more, sum_below_none}
use Rattle.plain_costs.specs.declared.walk.WalkCost.{WalkCost}
use Rattle.plain_costs.specs.Tenths.{tenths_at, value_count}
use Rattle.plain_costs.specs.WalkCosts.{IsSmall, IsWalkCost}

and_true : (b : Bool) → (b && true) ≡ b
and_true true = refl
and_true false = refl

list_all-range_more : (p : ℕ → Bool) (n : ℕ) → list_all p (range_with_len 0 (n + 1)) ≡ (list_all p (range_with_len 0 n) && p n)
list_all-range_more p n =
    let self = λ (k : ℕ). k in
    sym (list_all-map p self (range_with_len 0 (n + 1))) ∙ ap (list_all p) (map-range_with_len_more self 0 n n (omega arith))
    ∙ list_all-append p (map self (range_with_len 0 n)) (n ∷ [])
    ∙ ap (λ b. b && (p n && true)) (list_all-map p self (range_with_len 0 n))
    ∙ ap (λ b. list_all p (range_with_len 0 n) && b) (and_true (p n))

module _ (station : Station) (costs : ℕ → ℕ → ℕ) (q : Sequence) where
  -- before the first slot
  pub none : (told : List ℕ) → ((i : ℕ) → slice_index told i ≡ 0) → IsWalkCost station costs 0 q (record { all = 0; outside = 0; told = told; one_day = true })
  none told nothing = record {
    all = sym (sum_below_none _);
    outside = sym (sum_below_none _);
    told = λ i lt. nothing i ∙ sym (sum_below_none _);
    one_day = refl;
  }

  -- one more slot, of the minute and second of the place
  pub more : (k set cost part : ℕ) (told : List ℕ) (place : ℕ × ℕ) (walk : WalkCost) → IsWalkCost station costs k q walk → place ≡ place_at q k
      → cost ≡ set_cost station (costs k) (set_at station q k)
      → part ≡ (if is_dut1_second station place.1 then 0 else cost)
      → ((i : ℕ) → i < value_count station → slice_index told i
      ≡ slice_index walk.told i + (if is_dut1_second station place.1 then costs k (dut1_symbol station (tenths_at station i) place.1) else 0))
      → IsWalkCost station costs (k + 1) q (record {
        all = walk.all + cost;
        outside = walk.outside + part;
        told = told;
        one_day = walk.one_day && (place.0 / minutes_per_day == q.first / minutes_per_day);
      })
  more k set cost part told place walk before here price outside adds = record {
    all = omega (arith, before.all, price, sum_below_more k (λ j. set_cost station (costs j) (set_at station q j)));
    outside =
        let part_is : part ≡ (if is_dut1_second station (place_at q k).1 then 0 else set_cost station (costs k) (set_at station q k)) =
        outside ∙ ap (λ (p : ℕ × ℕ). if is_dut1_second station p.1 then 0 else cost) here ∙ ap (λ c. if is_dut1_second station (place_at q k).1 then 0 else c) price in
        omega (arith, before.outside, part_is, sum_below_more k (λ j. if is_dut1_second station (place_at q j).1 then 0 else set_cost station (costs j) (set_at station q j)));
    told = λ i lt.
        let d = tenths_at station i in
        let tells : slice_index told i ≡ slice_index walk.told i + (if is_dut1_second station (place_at q k).1 then costs k (dut1_symbol station d (place_at q k).1) else 0) =
        adds i lt ∙ ap (λ (p : ℕ × ℕ). slice_index walk.told i + (if is_dut1_second station p.1 then costs k (dut1_symbol station d p.1) else 0)) here in
        omega (arith, before.told i lt, tells, sum_below_more k (λ j. let s = (place_at q j).1 in if is_dut1_second station s then costs j (dut1_symbol station d s) else 0));
    one_day =
        ap (λ b. b && (place.0 / minutes_per_day == q.first / minutes_per_day)) before.one_day
        ∙ ap (λ (p : ℕ × ℕ). lies_in_one_day k q && (p.0 / minutes_per_day == q.first / minutes_per_day)) here
        ∙ sym (list_all-range_more (λ j. (place_at q j).0 / minutes_per_day == q.first / minutes_per_day) k);
  }

pub zeros : (n i : ℕ) → slice_index (replicate n 0) i ≡ 0
zeros zero i = refl
zeros (suc n) zero = refl
zeros (suc n) (suc i) = zeros n i

-- what so many slots can cost
pub few_slots : (k r : ℕ) → k ≤ MOST_SECONDS → r ≤ MOST_RECEIVERS → k * (r * RECEIVER_COST) ≤ GREATEST_COST
few_slots k r short few =
    let slot : r * RECEIVER_COST ≤ MOST_RECEIVERS * RECEIVER_COST = omega (arith, few) in
    omega (arith, short, mul-le-mul_left k slot)

-- what some receivers cost, and some more
pub more_receivers : (n some more all a b : ℕ) → all ≡ some + more → a ≤ n * (some * RECEIVER_COST) → b ≤ n * (more * RECEIVER_COST)
    → a + b ≤ n * (all * RECEIVER_COST)
more_receivers n some more all a b is first second = rw is (omega (arith, first, second))

pub part_le : (tells : Bool) (cost part : ℕ) → part ≡ (if tells then 0 else cost) → part ≤ cost
part_le true cost part is = omega (arith, is)
part_le false cost part is = omega (arith, is)

-- sums that a slot adds no more to than its most
pub more_small : (most k cost part : ℕ) (told : List ℕ) (tells one_day : Bool) (walk : WalkCost) → IsSmall (k * most) walk → cost ≤ most
    → part ≡ (if tells then 0 else cost)
    → ((i : ℕ) → slice_index told i ≤ slice_index walk.told i + (if tells then most else 0))
    → IsSmall ((k + 1) * most) (record { all = walk.all + cost; outside = walk.outside + part; told = told; one_day = one_day })
more_small most k cost part told true one_day walk before small outside bound = record {
  all = omega (arith, before.all, small);
  parted = λ i. omega (arith, before.parted i, bound i, outside);
}
more_small most k cost part told false one_day walk before small outside bound = record {
  all = omega (arith, before.all, small);
  parted = λ i. omega (arith, before.parted i, bound i, outside, small);
}
