-- What a walk costs at the least that goes over a change of the encoded local time.
use Rattle.std.proofs.Common.{◌≡◌, ◌⊎◌, ℕ, ◌+◌, ◌-◌, ◌/◌, ◌%◌, ◌<◌, ◌≤◌, inl, inr, Bool, true, false, ◌==◌, ◌&&◌, ◌||◌, nat_lt, if◌then◌else◌, List, [], slice_index_or, length, get_or, refl, ap, ◌∙◌, arith}
use Rattle.std.proofs.lemmas.Bool.{cases_Bool, cases_lt, le-ltb, lt-ltb, or_from}
use Rattle.signal_base.specs.declared.station.Station.{Station}
use Rattle.definitions.specs.declared.sequence.Sequence.{Sequence}
use Rattle.definitions.specs.sequences.Walks.{set_at}
use Rattle.definitions.proofs.CostLaws.{sum_below_same}
use Rattle.symbol_cost.specs.Grid.{Grid, cost_at}
use Rattle.minute_parts.specs.Overlay.{is_given_up, is_time_second}
use Rattle.minute_parts.specs.Parts.{IsInRun, local_time, part_where, times_at}
use Rattle.minute_parts.specs.Runs.{end_of_run, run_at}
use Rattle.minute_parts.specs.Walks.{later_minutes}
use Rattle.slot_columns.specs.Parts.{most_cost, split_cost, split_set, walk_cost, walk_set}
use Rattle.slot_columns.proofs.SetLaws.{none_chosen}
use Rattle.walk_costs.specs.Changes.{before, cost_in_slot_over, cost_over}
use Rattle.walk_costs.specs.Dates.{IsAdded}
use Rattle.walk_costs.specs.Kinds.{either_part, either_set}
use Rattle.walk_costs.specs.Overs.{IsOver}
use Rattle.walk_costs.specs.Walks.{ArePriced, PricedParts, cost_of, last_minute}
use Rattle.walk_costs.proofs.LeastLaws.{either_at}
use Rattle.walk_costs.proofs.NeighbourLaws.{either_less, sent_by}
use Rattle.walk_costs.proofs.SlotLaws.{set_in}
use Rattle.walk_costs.proofs.SplitLaws.{calls, parts_of_second, tells_by}
use Rattle.walk_costs.proofs.SumLaws.{cost_in, sum_le, sum_of_two}
use Rattle.walk_costs.proofs.PlaceLaws.{but_last}
use Rattle.walk_costs.proofs.TotalLaws.{total}

-- a station that sends no call sign gives up no second
gives_none : (gives : Bool) → gives ≡ false → gives ≡ true → ⊥
gives_none true keeps gives = absurd cc
gives_none false keeps gives = absurd cc

none_given : (call gives : Bool) → gives ≡ false → (call && gives) ≡ false
none_given true gives keeps = keeps
none_given false gives keeps = refl

-- where the local time stays as it is the times of day cost what a walk through a day does
pub unchanged : (grid : Grid) (times : List (List ℕ)) (u b p : ℕ) → walk_cost grid.station (cost_at grid.rows) (length grid.rows) p times u ≡ cost_over grid times u u b p
unchanged grid times u b p =
    sum_below_same (length grid.rows) (λ k. cost_in grid k (walk_set times u p k)) (cost_in_slot_over grid times u u b p)
    (λ k within. by_test k (nat_lt ((p + k) / 60) b))
  where
    by_test : (k : ℕ) (t : Bool)
        → cost_in grid k (get_or (slice_index_or times ((u + (p + k) / 60) % 1440) []) ((p + k) % 60) 0)
        ≡ cost_in grid k (get_or (slice_index_or times (((if t then u else u) + (p + k) / 60) % 1440) []) ((p + k) % 60) 0)
    by_test k true = refl
    by_test k false = refl

module _ (w : PricedParts) (costs : List (List ℕ)) (more : List ℕ) (priced : ArePriced w.parts w.grid costs more)
    (announced : Bool) (p t0 i j end : ℕ) (is_end : end ≡ end_of_run w.parts.runs w.parts.end i) (over : IsOver w announced p t0 i j)
    (is_next : i + 1 < length w.parts.runs) (is_last : j < length w.parts.runs)
    (keeps : (s : ℕ) → is_given_up w.grid.station s ≡ false) where
  abbrev n : ℕ
  n = length w.grid.rows

  abbrev q : Sequence
  q = record { first = t0; second = p; announced = announced }

  -- so many minutes of the walk lie in the first run
  abbrev pub front : ℕ
  front = end - t0

  pub begun : t0 < end
  begun = omega (arith, is_end, over.begins.not_over)

  pub front_few : front ≤ later_minutes n p
  front_few = omega (arith, is_end, over.leaves)

  few : later_minutes n p ≤ 20
  few = omega (arith, priced.short, over.second)

  -- the minutes of the day that the first walk minute encodes by the local time of the first run and of the others
  abbrev pub one : ℕ
  one = before (local_time (run_at w.parts.runs i) end) front

  abbrev pub other : ℕ
  other = before (local_time (run_at w.parts.runs (i + 1)) end) front

  -- so each encodes the minute of the day that it is to encode
  shifted : (m s u : ℕ) → m ≤ later_minutes n p → u ≡ before ((end + s) % 1440) front → (t0 + m + s) % 1440 ≡ (u + m) % 1440
  shifted m s u le is = omega (arith, begun, front_few, few, le, is)

  abbrev part_of : ℕ → List ℕ
  part_of r = part_where announced (run_at w.parts.runs r)

  -- a slot of a minute in a run costs what its time of day and its date do
  in_run : (r k : ℕ) → k < n → IsInRun w.parts (t0 + (p + k) / 60) r
      → cost_in w.grid k (set_at w.grid.station q k)
      ≡ cost_in w.grid k (get_or (times_at w.parts (local_time (run_at w.parts.runs r) (t0 + (p + k) / 60))) ((p + k) % 60) 0) + cost_in w.grid k (get_or (part_of r) ((p + k) % 60) 0)
  in_run r k within inside =
      let st = w.parts.station in
      let table = priced.table in
      let s : ℕ = (p + k) % 60 in
      let v : ℕ = local_time (run_at w.parts.runs r) (t0 + (p + k) / 60) in
      let day : v < 1440 = omega arith in
      let second : s < 60 = omega arith in
      let time : ℕ = get_or (times_at w.parts v) s 0 in
      let date : ℕ = get_or (part_of r) s 0 in
      let none = ap (λ (x : Station). is_given_up x s) priced.station ∙ keeps s in
      let told = λ (e : (is_time_second st s || (calls st v && is_given_up st s)) ≡ true). table.time_told v s day second (tells_by st v s ∙ e) in
      let untold = λ (e : (is_time_second st s || (calls st v && is_given_up st s)) ≡ false). table.time_alone v s day second (tells_by st v s ∙ e) in
      let alone = λ (e : is_time_second st s ≡ true). table.date_alone announced r s inside.is_run second e in
      let called = λ (e : is_given_up st s ≡ true). absurd (gives_none (is_given_up st s) none e) in
      let parts = parts_of_second (cost_in w.grid k) time date (is_time_second st s) (calls st v) (is_given_up st s) false
      (none_chosen w.grid.station (cost_at w.grid.rows k)) told untold alone called in
      let set = set_in w priced.station priced.table announced p t0 over.second over.short r k (t0 + (p + k) / 60) s within refl refl inside in
      omega (arith, ap (cost_in w.grid k) set, parts)

  -- what may be the date of either run costs no more than that of one
  no_more : (r k : ℕ) → k < n → IsInRun w.parts (t0 + (p + k) / 60) r → (r ≡ i + 1) ⊎ (r ≡ j)
      → cost_in w.grid k (get_or (either_part (part_of (i + 1)) (part_of j)) ((p + k) % 60) 0) ≤ cost_in w.grid k (get_or (part_of r) ((p + k) % 60) 0)
  no_more r k within inside one_of =
      let st = w.parts.station in
      let s : ℕ = (p + k) % 60 in
      let t : ℕ = t0 + (p + k) / 60 in
      let v : ℕ = local_time (run_at w.parts.runs r) t in
      let a : ℕ = get_or (part_of (i + 1)) s 0 in
      let b : ℕ = get_or (part_of j) s 0 in
      let second : s < 60 = omega arith in
      let at = either_at (part_of (i + 1)) (part_of j) s second in
      elim (cases_Bool (is_time_second st s)) [
        | inl timed ↦ omega (
          arith,
          ap (cost_in w.grid k) (at ∙ ap (λ x. either_set x b) (priced.table.date_alone announced (i + 1) s is_next second timed) ∙ ap (either_set 0) (priced.table.date_alone announced j s is_last second timed)),
          none_chosen w.grid.station (cost_at w.grid.rows k),
        )
        | inr untimed ↦ (
            let none = ap (λ (x : Station). is_given_up x s) priced.station ∙ keeps s in
            let untold = priced.table.time_alone v s (omega arith) second (tells_by st v s ∙ or_from _ _ untimed (none_given (calls st v) (is_given_up st s) none)) in
            let here : (p + k) / 60 ≤ later_minutes n p = omega (arith, within) in
            let short = over.short t (omega arith) (omega (arith, here)) in
            let set = sent_by w costs more priced announced p (i + 1) j over.second is_next is_last r t s inside short second untold in
            omega (arith, ap (cost_in w.grid k) at, either_less w.grid.station (cost_at w.grid.rows k) a b (get_or (part_of r) s 0) set.0 (by_run r one_of)))
      ]
    where
      by_run : (r : ℕ) → (r ≡ i + 1) ⊎ (r ≡ j)
          → (get_or (part_of r) ((p + k) % 60) 0 ≡ get_or (part_of (i + 1)) ((p + k) % 60) 0) ⊎ (get_or (part_of r) ((p + k) % 60) 0 ≡ get_or (part_of j) ((p + k) % 60) 0)
      by_run r (inl is) = inl (ap (λ x. get_or (part_of x) ((p + k) % 60) 0) is)
      by_run r (inr is) = inr (ap (λ x. get_or (part_of x) ((p + k) % 60) 0) is)

  -- what the dates cost at the least in a slot
  abbrev date_over : ℕ → ℕ
  date_over k = cost_in w.grid k (split_set p front (part_of i) (either_part (part_of (i + 1)) (part_of j)) k)

  abbrev time_in : ℕ → ℕ
  time_in = cost_in_slot_over w.grid w.parts.times one other front p

  -- the parts of a slot by the run of its minute
  by_front : (k : ℕ) (b : Bool) → nat_lt ((p + k) / 60) front ≡ b
      → (time_in k ≡ cost_in w.grid k (get_or (times_at w.parts (((if b then one else other) + (p + k) / 60) % 1440)) ((p + k) % 60) 0))
      × (date_over k ≡ cost_in w.grid k (get_or (if b then part_of i else either_part (part_of (i + 1)) (part_of j)) ((p + k) % 60) 0))
  by_front k b is = (
    ap (λ (x : Bool). cost_in w.grid k (get_or (times_at w.parts (((if x then one else other) + (p + k) / 60) % 1440)) ((p + k) % 60) 0)) is,
    ap (λ (x : Bool). cost_in w.grid k (get_or (if x then part_of i else either_part (part_of (i + 1)) (part_of j)) ((p + k) % 60) 0)) is,
  )

  in_slot : (k : ℕ) → k < n → time_in k + date_over k ≤ cost_in w.grid k (set_at w.grid.station q k)
  in_slot k within = elim (cases_lt ((p + k) / 60) front) [
    | inl lt ↦ (
        let inside : IsInRun w.parts (t0 + ((p + k) / 60)) i = record { is_run = over.begins.is_run; begun = omega (arith, over.begins.begun); not_over = omega (arith, is_end, lt) } in
        let both = by_front k true (lt-ltb ((p + k) / 60) front lt) in
        let time = shifted ((p + k) / 60) (run_at w.parts.runs i).shift one here refl in
        omega (arith, both.0, both.1, in_run i k within inside, ap (λ v. cost_in w.grid k (get_or (times_at w.parts v) ((p + k) % 60) 0)) time))
    | inr ge ↦ later ge (over.later (t0 + ((p + k) / 60)) (omega (arith, is_end, ge, begun)) (omega (arith, here)))
  ]
    where
      here : ((p + k) / 60) ≤ later_minutes n p
      here = omega (arith, within)

      in_later : (r : ℕ) → front ≤ ((p + k) / 60) → IsInRun w.parts (t0 + ((p + k) / 60)) r → (r ≡ i + 1) ⊎ (r ≡ j) → (run_at w.parts.runs r).shift ≡ (run_at w.parts.runs (i + 1)).shift
          → time_in k + date_over k ≤ cost_in w.grid k (set_at w.grid.station q k)
      in_later r ge inside one_of shift =
          let both = by_front k false (le-ltb ((p + k) / 60) front ge) in
          let time = ap (λ x. (t0 + ((p + k) / 60) + x) % 1440) shift ∙ shifted ((p + k) / 60) (run_at w.parts.runs (i + 1)).shift other here refl in
          omega (
            arith,
            both.0,
            both.1,
            in_run r k within inside,
            ap (λ v. cost_in w.grid k (get_or (times_at w.parts v) ((p + k) % 60) 0)) time,
            no_more r k within inside one_of,
          )

      later : front ≤ ((p + k) / 60) → (IsInRun w.parts (t0 + ((p + k) / 60)) (i + 1)) ⊎ (IsInRun w.parts (t0 + ((p + k) / 60)) j) → time_in k + date_over k ≤ cost_in w.grid k (set_at w.grid.station q k)
      later ge (inl next) = in_later (i + 1) ge next (inl refl) refl
      later ge (inr last) = in_later j ge last (inr refl) over.alike

  pub least_over : (times dates added : ℕ) → times ≡ cost_over w.grid w.parts.times one other front p
      → dates ≡ split_cost w.grid.station (cost_at w.grid.rows) n p front (part_of i) (either_part (part_of (i + 1)) (part_of j))
      → ((last_minute w p t0 / 1440 == t0 / 1440) ≡ true → IsAdded w.grid p added)
      → ((last_minute w p t0 / 1440 == t0 / 1440) ≡ false → added ≡ 0)
      → (times + dates + added ≤ cost_of w announced p t0) × (cost_of w announced p t0 ≤ most_cost w.grid)
  least_over times dates added by_time by_date one_day two_days =
      let sets = sum_le n (λ k. time_in k + date_over k) (λ k. cost_in w.grid k (set_at w.grid.station q k)) in_slot in
      let all = total w priced.small announced p t0 over.second (but_last announced t0 (last_minute w p t0) over.short) added one_day two_days in
      (omega (arith, sets, sum_of_two n time_in date_over, by_time, by_date, all.cost), omega (arith, all.cost, all.bound))
