-- What a walk costs by the parts of its minutes.
use Rattle.std.proofs.Common.{◌≡◌, ℕ, ◌+◌, ◌-◌, ◌/◌, ◌%◌, ◌<◌, ◌≤◌, ◌⊎◌, inl, inr, Bool, true, false, ◌==◌, ◌&&◌, ◌||◌, if◌then◌else◌, List, [], length, get_or, slice_index_or, refl, sym, ap, ◌∙◌, subst, arith}
use Rattle.std.proofs.lemmas.Bool.{cases_eq, ne_eqb}
use Rattle.signal_base.specs.declared.station.Station.{Station}
use Rattle.definitions.specs.declared.sequence.Sequence.{Sequence}
use Rattle.definitions.specs.time.Calendar.{minute_length}
use Rattle.definitions.specs.sequences.Walks.{set_at}
use Rattle.definitions.specs.heard.Costs.{sum_below}
use Rattle.definitions.proofs.CostLaws.{sum_below_bound, sum_below_same}
use Rattle.symbol_cost.specs.Grid.{Grid, cost_at}
use Rattle.minute_parts.specs.Overlay.{is_given_up, is_time_second, overlay}
use Rattle.minute_parts.specs.Parts.{IsInRun, part_where, times_at}
use Rattle.minute_parts.specs.Runs.{run_at}
use Rattle.slot_columns.specs.Parts.{minute_cost, most_cost, walk_cost, walk_set}
use Rattle.slot_columns.proofs.SetLaws.{none_chosen}
use Rattle.walk_costs.specs.Dates.{IsAdded, date_cost, given_up, given_up_set, minutes_to_call, part_cost}
use Rattle.minute_parts.specs.Walks.{later_minutes}
use Rattle.walk_costs.specs.Walks.{ArePriced, IsRegularIn, MayAdd, PricedParts, last_minute}
use Rattle.walk_costs.proofs.SumLaws.{at_second, cost_in, most_of_few, part_by_second, sum_le, sums_of_two}
use Rattle.walk_costs.proofs.SlotLaws.{set_in}
use Rattle.walk_costs.proofs.SplitLaws.{call_minute, calls, parts_of_second, tells_by}
use Rattle.walk_costs.proofs.PlaceLaws.{but_last}
use Rattle.walk_costs.proofs.TotalLaws.{IsTotal, all_sets, total}

-- what the part costs in the seconds that are given up, in slot k
abbrev pub lost : Grid → ℕ → ℕ → List ℕ → ℕ → ℕ
lost grid p m part k = if (p + k) / 60 == m then cost_in grid k (given_up_set grid.station part ((p + k) % 60)) else 0

pub lost_sum : (grid : Grid) (p m : ℕ) (part : List ℕ)
    → minute_cost grid.station (cost_at grid.rows) (length grid.rows) p m (given_up grid.station part) ≡ sum_below (length grid.rows) (lost grid p m part)
unfolding given_up
lost_sum grid p m part =
    sum_below_same (length grid.rows) (λ k. if (p + k) / 60 == m then cost_in grid k (get_or (given_up grid.station part) ((p + k) % 60) 0) else 0) (lost grid p m part)
    (λ k within. ap (λ set. if (p + k) / 60 == m then cost_in grid k set else 0)
    (at_second (given_up_set grid.station part) (given_up grid.station part) ((p + k) % 60) refl (omega arith)))

-- that is part of what the part costs
pub lost_in_slot : (grid : Grid) (p m : ℕ) (part : List ℕ) (k : ℕ) → lost grid p m part k ≤ cost_in grid k (get_or part ((p + k) % 60) 0)
lost_in_slot grid p m part k = by_tests ((p + k) % 60) ((p + k) / 60 == m) (is_given_up grid.station ((p + k) % 60))
  where
    by_tests : (s : ℕ) (here gives : Bool) → (if here then cost_in grid k (if gives then get_or part s 0 else 0) else 0) ≤ cost_in grid k (get_or part s 0)
    by_tests s true true = omega arith
    by_tests s true false = omega (arith, none_chosen grid.station (cost_at grid.rows k))
    by_tests s false gives = omega arith

pub lost_le : (grid : Grid) (p m : ℕ) (part : List ℕ)
    → minute_cost grid.station (cost_at grid.rows) (length grid.rows) p m (given_up grid.station part) ≤ part_cost grid p part
lost_le grid p m part =
    let less = sum_le (length grid.rows) (lost grid p m part) (λ k. cost_in grid k (get_or part ((p + k) % 60) 0)) (λ k within. lost_in_slot grid p m part k) in
    omega (arith, less, lost_sum grid p m part, part_by_second grid p part)

-- no other station than JJY gives up seconds
pub none_lost : (grid : Grid) (p m : ℕ) (part : List ℕ) → ((s : ℕ) → is_given_up grid.station s ≡ false)
    → minute_cost grid.station (cost_at grid.rows) (length grid.rows) p m (given_up grid.station part) ≡ 0
none_lost grid p m part keeps =
    let none = sum_below_bound (length grid.rows) 0 (lost grid p m part) (λ k within. slot k ((p + k) % 60) ((p + k) / 60 == m)) in
    omega (arith, lost_sum grid p m part, none)
  where
    slot : (k s : ℕ) (here : Bool) → (if here then cost_in grid k (if is_given_up grid.station s then get_or part s 0 else 0) else 0) ≤ 0
    slot k s true = rw (keeps s) (omega (arith, none_chosen grid.station (cost_at grid.rows k)))
    slot k s false = omega arith

-- the walk from second p of the minute t0 has 60 seconds in each minute, and its minutes lie in runs that encode the local
-- time so far ahead of UTC
pub record AreRunsOf (w : PricedParts) (announced : Bool) (p t0 shift : ℕ) (run_by : ℕ → ℕ) : Type 0 where
  pub second : p < 60
  pub short : (t : ℕ) → t0 ≤ t → t ≤ last_minute w p t0 → minute_length announced t ≡ 60
  pub each : (m : ℕ) → m ≤ later_minutes (length w.grid.rows) p → IsInRun w.parts (t0 + m) (run_by m)
  pub shifts : (m : ℕ) → m ≤ later_minutes (length w.grid.rows) p → (run_at w.parts.runs (run_by m)).shift ≡ shift

module _ (w : PricedParts) (costs : List (List ℕ)) (more : List ℕ) (priced : ArePriced w.parts w.grid costs more)
    (announced : Bool) (p t0 shift : ℕ) (run_by : ℕ → ℕ) (are : AreRunsOf w announced p t0 shift run_by) where
  abbrev n : ℕ
  n = length w.grid.rows

  abbrev q : Sequence
  q = record { first = t0; second = p; announced = announced }

  -- what the date tells in walk minute m
  abbrev pub part_by : ℕ → List ℕ
  part_by m = part_where announced (run_at w.parts.runs (run_by m))

  abbrev pub time_of : ℕ → ℕ
  time_of t = (t + shift) % 1440

  -- what the sets cost, and what the dates do
  abbrev pub sets : ℕ
  sets = all_sets w priced.small announced p t0 are.second (but_last announced t0 (last_minute w p t0) are.short)

  abbrev pub date_in : ℕ → ℕ
  date_in k = cost_in w.grid k (get_or (part_by ((p + k) / 60)) ((p + k) % 60) 0)

  -- the set of a slot, by the two parts
  set_is : (k : ℕ) → k < n
      → set_at w.grid.station q k ≡ overlay (get_or (times_at w.parts (time_of (t0 + (p + k) / 60))) ((p + k) % 60) 0) (get_or (part_by ((p + k) / 60)) ((p + k) % 60) 0)
  set_is k within =
      let m : ℕ = (p + k) / 60 in
      let few : m ≤ later_minutes n p = omega arith in
      set_in w priced.station priced.table announced p t0 are.second are.short (run_by m) k (t0 + m) ((p + k) % 60) within refl refl (are.each m few)
      ∙ ap (λ x. overlay (get_or (times_at w.parts ((t0 + m + x) % 1440)) ((p + k) % 60) 0) (get_or (part_by m) ((p + k) % 60) 0)) (are.shifts m few)

  -- the date of the minute that the call sign takes is that of each slot which it takes
  pub lost_here : (m k : ℕ) → lost w.grid p m (part_by m) k ≡ lost w.grid p m (part_by ((p + k) / 60)) k
  lost_here m k = elim (cases_eq ((p + k) / 60) m) [
    | inl here ↦ ap (λ x. lost w.grid p m (part_by x) k) (sym here)
    | inr other ↦ nothing (part_by m) other ∙ sym (nothing (part_by ((p + k) / 60)) other)
  ]
    where
      nothing : (part : List ℕ) → ((p + k) / 60 ≡ m → ⊥) → lost w.grid p m part k ≡ 0
      nothing part other = ap (λ (b : Bool). if b then cost_in w.grid k (given_up_set w.grid.station part ((p + k) % 60)) else 0) (ne_eqb ((p + k) / 60) m other)

  -- what it costs
  in_slot : (k : ℕ) → k < n
      → cost_in w.grid k (set_at w.grid.station q k) + lost w.grid p (minutes_to_call (time_of t0)) (part_by (minutes_to_call (time_of t0))) k
      ≡ cost_in w.grid k (walk_set w.parts.times (time_of t0) p k) + date_in k
  in_slot k within =
      let st = w.parts.station in
      let same = priced.station in
      let table = priced.table in
      let j : ℕ = (p + k) / 60 in
      let s : ℕ = (p + k) % 60 in
      let u : ℕ = time_of t0 in
      let v : ℕ = time_of (t0 + j) in
      let day : v < 1440 = omega arith in
      let second : s < 60 = omega arith in
      let few : j < 30 = omega (arith, are.second, priced.short) in
      let here : j ≤ later_minutes n p = omega arith in
      let later : v ≡ (u + j) % 1440 = omega arith in
      let time : ℕ = get_or (times_at w.parts v) s 0 in
      let date : ℕ = get_or (part_by j) s 0 in
      let told = λ (e : (is_time_second st s || (calls st v && is_given_up st s)) ≡ true). table.time_told v s day second (tells_by st v s ∙ e) in
      let untold = λ (e : (is_time_second st s || (calls st v && is_given_up st s)) ≡ false). table.time_alone v s day second (tells_by st v s ∙ e) in
      let alone = λ (e : is_time_second st s ≡ true). table.date_alone announced (run_by j) s (are.each j here).is_run second e in
      let called = λ (e : is_given_up st s ≡ true). call_minute st u j s few e ∙ ap (calls st) (sym later) in
      let parts = parts_of_second (cost_in w.grid k) time date (is_time_second st s) (calls st v) (is_given_up st s) (j == minutes_to_call u)
      (none_chosen w.grid.station (cost_at w.grid.rows k)) told untold alone called in
      ap (λ x. cost_in w.grid k (set_at w.grid.station q k) + x) (lost_here (minutes_to_call u) k)
      ∙ ap (λ x. cost_in w.grid k x + lost w.grid p (minutes_to_call u) (part_by j) k) (set_is k within)
      ∙ ap (λ (x : Station). cost_in w.grid k (overlay time date)
      + (if j == minutes_to_call u then cost_in w.grid k (if is_given_up x s then date else 0) else 0)) (sym same)
      ∙ parts
      ∙ ap (λ x. cost_in w.grid k (get_or (slice_index_or w.parts.times x []) s 0) + cost_in w.grid k date) later

  -- the sum of the parts is that of the sets and of what is lost
  split : sets + minute_cost w.grid.station (cost_at w.grid.rows) n p (minutes_to_call (time_of t0)) (given_up w.grid.station (part_by (minutes_to_call (time_of t0))))
      ≡ walk_cost w.grid.station (cost_at w.grid.rows) n p w.parts.times (time_of t0) + sum_below n date_in
  split =
      let m : ℕ = minutes_to_call (time_of t0) in
      let sums = sums_of_two n (λ k. cost_in w.grid k (set_at w.grid.station q k)) (lost w.grid p m (part_by m))
      (λ k. cost_in w.grid k (walk_set w.parts.times (time_of t0) p k)) date_in in_slot in
      omega (arith, sums, lost_sum w.grid p m (part_by m))

  -- what is lost is part of what the dates cost
  lost_of_dates : (m : ℕ) → minute_cost w.grid.station (cost_at w.grid.rows) n p m (given_up w.grid.station (part_by m)) ≤ sum_below n date_in
  lost_of_dates m =
      let less = sum_le n (lost w.grid p m (part_by m)) date_in
      (λ k within. omega (arith, lost_here m k, lost_in_slot w.grid p m (part_by ((p + k) / 60)) k)) in
      omega (arith, less, lost_sum w.grid p m (part_by m))

  -- the cost of the sequence, from three numbers that were made before, by the local time and the minutes to the call sign
  -- that are computed
  pub total_by_runs : (u m walk dates loss added : ℕ) → u ≡ time_of t0 → m ≡ minutes_to_call u
      → walk ≡ walk_cost w.grid.station (cost_at w.grid.rows) n p w.parts.times u → dates ≡ sum_below n date_in
      → loss ≡ minute_cost w.grid.station (cost_at w.grid.rows) n p m (given_up w.grid.station (part_by m))
      → ((last_minute w p t0 / 1440 == t0 / 1440) ≡ true → IsAdded w.grid p added)
      → ((last_minute w p t0 / 1440 == t0 / 1440) ≡ false → added ≡ 0)
      → IsTotal w announced p t0 (walk + (dates - loss)) added × (loss ≤ dates)
  total_by_runs u m walk dates loss added time call by_time by_date by_call one two =
      let walk_is = by_time ∙ ap (walk_cost w.grid.station (cost_at w.grid.rows) n p w.parts.times) time in
      let m_is : m ≡ minutes_to_call (time_of t0) = call ∙ ap minutes_to_call time in
      let loss_is = by_call ∙ ap (λ x. minute_cost w.grid.station (cost_at w.grid.rows) n p x (given_up w.grid.station (part_by x))) m_is in
      let less : loss ≤ dates = omega (arith, by_call, by_date, lost_of_dates m) in
      let sum : sets ≡ walk + (dates - loss) = omega (arith, split, walk_is, by_date, loss_is, less) in
      (subst (λ x. IsTotal w announced p t0 x added) sum (total w priced.small announced p t0 are.second (but_last announced t0 (last_minute w p t0) are.short) added one two), less)

-- a walk in one run
module _ (w : PricedParts) (costs : List (List ℕ)) (more : List ℕ) (priced : ArePriced w.parts w.grid costs more)
    (announced : Bool) (p t0 i : ℕ) (regular : IsRegularIn w announced p t0 i) where
  pub one_run : AreRunsOf w announced p t0 (run_at w.parts.runs i).shift (λ m. i)
  one_run = record {
    second = regular.second;
    short = regular.short;
    each = λ m le. record {
      is_run = regular.begins.is_run;
      begun = omega (arith, regular.begins.begun);
      not_over = omega (arith, regular.ends, le);
    };
    shifts = λ m le. refl;
  }

  pub total_at : (u m walk date added : ℕ) → u ≡ (t0 + (run_at w.parts.runs i).shift) % 1440 → m ≡ minutes_to_call u
      → walk ≡ walk_cost w.grid.station (cost_at w.grid.rows) (length w.grid.rows) p w.parts.times u
      → date ≡ date_cost w.grid p m (part_where announced (run_at w.parts.runs i))
      → ((last_minute w p t0 / 1440 == t0 / 1440) ≡ true → IsAdded w.grid p added)
      → ((last_minute w p t0 / 1440 == t0 / 1440) ≡ false → added ≡ 0)
      → IsTotal w announced p t0 (walk + date) added
  total_at u m walk date added time call by_time by_date one two =
      let part = part_where announced (run_at w.parts.runs i) in
      let all = total_by_runs w costs more priced announced p t0 (run_at w.parts.runs i).shift (λ m. i) one_run u m walk (part_cost w.grid p part)
      (minute_cost w.grid.station (cost_at w.grid.rows) (length w.grid.rows) p m (given_up w.grid.station part)) added time call by_time
      (part_by_second w.grid p part) refl one two in
      subst (λ x. IsTotal w announced p t0 (walk + x) added) (sym by_date) all.0

-- what a walk costs at the least with what DUT1 adds, it does with what that may add
module _ (w : PricedParts) (costs : List (List ℕ)) (more : List ℕ) (priced : ArePriced w.parts w.grid costs more) (p t0 sets cost most : ℕ) (second : p < 60)
    (whole : (added : ℕ) → ((last_minute w p t0 / 1440 == t0 / 1440) ≡ true → IsAdded w.grid p added)
    → ((last_minute w p t0 / 1440 == t0 / 1440) ≡ false → added ≡ 0) → (sets + added ≤ cost) × (cost ≤ most)) where
  pub with_dut1 : (added : ℕ) → MayAdd w p t0 added → (sets + added ≤ cost) × (cost ≤ most)
  with_dut1 added may = by_day (last_minute w p t0 / 1440 == t0 / 1440) refl
    where
      by_sum : (last_minute w p t0 / 1440 == t0 / 1440) ≡ true → (added ≡ 0) ⊎ (IsAdded w.grid p added) → (sets + added ≤ cost) × (cost ≤ most)
      by_sum here (inl is) = let all = whole (get_or more p 0) (λ e. priced.added p second) (λ e. absurd cc) in (omega (arith, all.0, is), all.1)
      by_sum here (inr is) = whole added (λ e. is) (λ e. absurd cc)

      by_day : (day : Bool) → (last_minute w p t0 / 1440 == t0 / 1440) ≡ day → (sets + added ≤ cost) × (cost ≤ most)
      by_day true is = by_sum is (may.one_day is)
      by_day false is = whole added (λ e. absurd cc) may.two_days

-- the most that a walk costs is a number of 32 bits
pub most_fits : (w : PricedParts) (costs : List (List ℕ)) (more : List ℕ) → ArePriced w.parts w.grid costs more → most_cost w.grid ≤ 1_920_000_000
most_fits w costs more priced = most_of_few w.grid priced.few priced.short
