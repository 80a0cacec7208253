-- What the unions of an hour cost: what the time of day tells there, and what the date tells of the seconds that are left to it.
use Rattle.std.proofs.Common.{◌≡◌, ℕ, ◌+◌, ◌-◌, ◌*◌, ◌/◌, ◌%◌, ◌<◌, ◌≤◌, inl, inr, Bool, true, false, ◌&&◌, nat_lt, if◌then◌else◌, List, [], ◌∷◌, ◌++◌, length, get_or, bit_or, refl, sym, ap, ◌∙◌, subst, arith}
use Rattle.std.specs.Int.Bits.{or_zero_l, or_zero_r}
use Rattle.std.proofs.Math.ListN.{get_or-append}
use Rattle.std.proofs.lemmas.Bool.{and_parts, cases_Bool, cases_lt, lt-ltb, ltb-false, ltb-true, or_cases}
use Rattle.std.proofs.lemmas.List.{get_or_push, length_push}
use Rattle.std.proofs.lemmas.Nat.{or_lt}
use Rattle.signal_base.specs.Mask.{has_bit}
use Rattle.signal_base.specs.declared.station.Station.{Station}
use Rattle.signal_base.specs.declared.station.Station.TheVariants.{Dcf77, Msf, Wwvb, Jjy}
use Rattle.definitions.specs.codes.Allowed.{allowed}
use Rattle.definitions.specs.heard.Costs.{set_cost}
use Rattle.definitions.specs.time.Calendar.{minute_length}
use Rattle.definitions.proofs.CostLaws.{sum_below_bound, sum_below_same}
use Rattle.symbol_cost.specs.Grid.{cost_at}
use Rattle.minute_parts.specs.Overlay.{is_call_minute, is_given_up, is_time_second, tells_time}
use Rattle.minute_parts.specs.Parts.{IsPartTable, PartTable, part_where}
use Rattle.minute_parts.specs.Runs.{end_of_run, first_of, run_at}
use Rattle.symbol_cost.specs.declared.limits.TheConstants.{RECEIVER_COST}
use Rattle.slot_columns.specs.Layered.{part_at}
use Rattle.slot_columns.specs.Parts.{layered_cost, layered_set, most_cost}
use Rattle.slot_columns.proofs.SetLaws.{none_chosen}
use Rattle.minute_parts.specs.HourLayers.{AreTimeLayers}
use Rattle.minute_parts.specs.Times.{time_at}
use Rattle.minute_parts.specs.Unions.{IsUnionOf, IsUnionOver}
use Rattle.minute_parts.proofs.UnionLaws.{none_has, one_union, union_same}
use Rattle.walk_costs.specs.Dates.{kept, kept_set, part_cost}
use Rattle.minute_parts.specs.Walks.{later_minutes}
use Rattle.walk_costs.specs.Walks.{AreSmall, PricedParts}
use Rattle.slot_columns.proofs.SplitLaws.{one_layer}
use Rattle.walk_costs.proofs.SumLaws.{at_second, cost_in, sum_of_two}
use Rattle.block_costs.specs.Blocks.{AreUnionsOfWalks, unions_cost}
use Rattle.block_costs.specs.Hours.{AreHourLayers, AreHours, IsHourCost, IsHourLayer}

-- a second that the time of day tells in some minute it tells in each, unless the call sign takes it
pub own_second : (station : Station) (u s : ℕ) → is_time_second station s ≡ false → is_given_up station s ≡ false → tells_time station u s ≡ false
own_second Dcf77 u s other kept = other
own_second Msf u s other kept = other
own_second Wwvb u s other kept = other
own_second Jjy u s other kept = elim (cases_Bool (tells_time Jjy u s)) [
  | inr untold ↦ untold
  | inl told ↦ elim (or_cases (is_time_second Jjy s) (is_call_minute u && is_given_up Jjy s) told) [
    | inl own ↦ (let both : true ≡ false = sym own ∙ other in absurd cc)
    | inr call ↦ (let both : true ≡ false = sym (and_parts _ _ call).1 ∙ kept in absurd cc)
  ]
]

-- the union of nothing is nothing
pub none_told : (f : ℕ → ℕ) (lo hi set : ℕ) → ((t : ℕ) → f t ≡ 0) → IsUnionOf f lo hi set → set ≡ 0
none_told f lo hi set none u = one_union f lo hi set 0 u (record {
  byte = omega arith;
  each = λ x h. absurd (none_has x (ap (λ m. has_bit m x) (sym (none h.0)) ∙ h.3));
  only = λ x has. absurd (none_has x has);
})

-- what is left of a part has what it leaves of each second
pub kept_at : (station : Station) (part : List ℕ) (s : ℕ) → s < 60 → get_or (kept station part) s 0 ≡ kept_set station part s
unfolding kept
kept_at station part s within = at_second (kept_set station part) (kept station part) s refl within

module _ (w : PricedParts) (table : IsPartTable w.parts) (own : w.parts.station ≡ w.grid.station) (announced : Bool) (i : ℕ) (is : i < length w.parts.runs) where
  abbrev date : List ℕ
  date = part_where announced (run_at w.parts.runs i)

  -- what a second of both costs is what each of them does
  split : (costs : ℕ → ℕ) (s a b time : ℕ) → s < 60 → IsUnionOf (time_at w.parts.times s) a b time
      → (is_given_up w.grid.station s ≡ true → bit_or time (get_or date s 0) ≡ time)
      → set_cost w.grid.station costs (bit_or time (get_or date s 0)) ≡ set_cost w.grid.station costs time + set_cost w.grid.station costs (kept_set w.grid.station date s)
  split costs s a b time within union covered = elim (cases_Bool (is_given_up w.grid.station s)) [
    | inl given ↦ (
        let nothing : kept_set w.grid.station date s ≡ 0 = rw given refl in
        rw (covered given, nothing, none_chosen w.grid.station costs) (omega arith))
    | inr left ↦ (
        let its : kept_set w.grid.station date s ≡ get_or date s 0 = rw left refl in
        elim (cases_Bool (is_time_second w.parts.station s)) [
          | inl always ↦ (
              let none : get_or date s 0 ≡ 0 = table.date_alone announced i s is within always in
              rw (its, none, or_zero_r time, none_chosen w.grid.station costs) (omega arith))
          | inr other ↦ (
              let silent : time ≡ 0 = none_told (time_at w.parts.times s) a b time
              (λ t. table.time_alone (t % 1440) s (omega arith) within
              (own_second w.parts.station (t % 1440) s other (ap (λ (st : Station). is_given_up st s) own ∙ left))) union in
              rw (its, silent, or_zero_l (get_or date s 0), none_chosen w.grid.station costs) (omega arith))
        ])
  ]

  module _ (p lo u reach : ℕ) (first rest : List ℕ) (second : p < 60)
      (layers : AreTimeLayers w.parts.times u reach (record { first = first; rest = rest }))
      (minute : u ≡ (lo + (run_at w.parts.runs i).shift) % 1440)
      (reached : later_minutes (length w.grid.rows) p ≤ reach)
      (begun : first_of w.parts.runs i ≤ lo)
      (ends : lo + 60 + later_minutes (length w.grid.rows) p ≤ end_of_run w.parts.runs w.parts.end i)
      (short : (t : ℕ) → lo ≤ t → t < lo + 60 + later_minutes (length w.grid.rows) p → minute_length announced t ≡ 60)
      (bytes : (s : ℕ) → s < 60 → get_or date s 0 < 256)
      (in_first : (s : ℕ) → is_given_up w.grid.station s ≡ true → bit_or (get_or first s 0) (get_or date s 0) ≡ get_or first s 0)
      (in_rest : (s : ℕ) → is_given_up w.grid.station s ≡ true → bit_or (get_or rest s 0) (get_or date s 0) ≡ get_or rest s 0)
      (law : (q : PartTable) (a : Bool) (j from m v s time : ℕ) → IsPartTable q → j < length q.runs → first_of q.runs j ≤ from + m
      → from + m + 60 ≤ end_of_run q.runs q.end j → ((t : ℕ) → from + m ≤ t → t < from + m + 60 → minute_length a t ≡ 60)
      → s < 60 → v ≡ (from + (run_at q.runs j).shift) % 1440 → IsUnionOf (time_at q.times s) (v + m) (v + m + 60) time
      → bit_or time (get_or (part_where a (run_at q.runs j)) s 0) < 256
      → IsUnionOver q.station a (from + m) (from + m + 60) s (bit_or time (get_or (part_where a (run_at q.runs j)) s 0))) where
    -- what both tell in walk minute m is the union there
    union_is : (m s time set : ℕ) → m ≤ later_minutes (length w.grid.rows) p → s < 60 → IsUnionOf (time_at w.parts.times s) (u + m) (u + m + 60) time
        → IsUnionOver w.grid.station announced (lo + m) (lo + 60 + m) s set → set ≡ bit_or time (get_or date s 0)
    union_is m s time set few within told union =
        let both = law w.parts announced i lo m u s time table is (omega (arith, begun)) (omega (arith, ends, few))
        (λ t ge less. short t (omega (arith, ge)) (omega (arith, less, few))) within minute told (or_lt 8 time (get_or date s 0) told.byte (bytes s within)) in
        let there : IsUnionOver w.grid.station announced (lo + m) (lo + m + 60) s (bit_or time (get_or date s 0)) =
        subst (λ (st : Station). IsUnionOver st announced (lo + m) (lo + m + 60) s (bit_or time (get_or date s 0))) own both in
        let end : lo + 60 + m ≡ lo + m + 60 = omega arith in
        one_union (λ t. allowed w.grid.station announced (t, s)) (lo + m) (lo + m + 60) set (bit_or time (get_or date s 0))
        (subst (λ e. IsUnionOver w.grid.station announced (lo + m) e s set) end union) there

    abbrev left : List ℕ
    left = kept w.grid.station date

    module _ (k : ℕ) (lt : k < length w.grid.rows) where
      abbrev s : ℕ
      s = (p + k) % 60

      abbrev m : ℕ
      m = (p + k) / 60

      -- the set of a slot by the time of day, by a test of whether it lies in the first minute
      abbrev time_by : Bool → ℕ
      time_by t = if t then get_or first (p + k) 0 else get_or rest s 0

      record IsTold (time : ℕ) : Type 0 where
        union : IsUnionOf (time_at w.parts.times s) (u + m) (u + m + 60) time
        covered : is_given_up w.grid.station s ≡ true → bit_or time (get_or date s 0) ≡ time

      told : (t : Bool) → nat_lt (p + k) 60 ≡ t → IsTold (time_by t)
      told true e =
          let early = ltb-true (p + k) 60 e in
          let place : s ≡ p + k = omega (arith, early) in
          let at : u + m ≡ u = omega (arith, early) in
          subst (λ q. IsTold (get_or first q 0)) place
          (record {
            union = subst (λ n. IsUnionOf (time_at w.parts.times s) n (n + 60) (get_or first s 0)) (sym at) (layers.first s (omega arith));
            covered = in_first s;
          })
      told false e =
          let late = ltb-false (p + k) 60 e in
          record { union = layers.rest m s (omega (arith, late)) (omega (arith, lt, reached)) (omega arith); covered = in_rest s }

      -- it costs with the date's what both cost
      pair : (time : ℕ) → IsTold time → cost_in w.grid k (bit_or time (get_or date s 0)) ≡ cost_in w.grid k time + cost_in w.grid k (layered_set p left left k)
      pair time is_told =
          let dated : cost_in w.grid k (layered_set p left left k) ≡ cost_in w.grid k (kept_set w.grid.station date s) =
          ap (cost_in w.grid k) (one_layer p left k ∙ kept_at w.grid.station date s (omega arith)) in
          split (cost_at w.grid.rows k) s (u + m) (u + m + 60) time (omega arith) is_told.union is_told.covered
          ∙ ap (λ c. cost_in w.grid k time + c) (sym dated)

      both_small : (t : Bool) → nat_lt (p + k) 60 ≡ t → AreSmall w.grid
          → cost_in w.grid k (time_by t) + cost_in w.grid k (layered_set p left left k) ≤ w.grid.receivers * RECEIVER_COST
      both_small t e small = omega (arith, pair (time_by t) (told t e), small k (bit_or (time_by t) (get_or date s 0)) lt)

      slot_by : (sets : ℕ → ℕ) → AreUnionsOfWalks w.grid.station announced p lo (lo + 60) (length w.grid.rows) sets → (t : Bool) → nat_lt (p + k) 60 ≡ t
          → cost_in w.grid k (sets k) ≡ cost_in w.grid k (time_by t) + cost_in w.grid k (layered_set p left left k)
      slot_by sets unions t e =
          let is_told = told t e in
          ap (cost_in w.grid k) (union_is m s (time_by t) (sets k) (omega (arith, lt)) (omega arith) is_told.union (unions k lt)) ∙ pair (time_by t) is_told

    abbrev of_time : ℕ → ℕ
    of_time k = cost_in w.grid k (layered_set p first rest k)

    abbrev of_date : ℕ → ℕ
    of_date k = cost_in w.grid k (layered_set p left left k)

    pub hour_cost : (sets : ℕ → ℕ) → AreUnionsOfWalks w.grid.station announced p lo (lo + 60) (length w.grid.rows) sets
        → layered_cost w.grid.station (cost_at w.grid.rows) (length w.grid.rows) p first rest + part_cost w.grid p left ≡ unions_cost w.grid sets
    hour_cost sets unions =
        sym (sum_of_two (length w.grid.rows) of_time of_date)
        ∙ sum_below_same (length w.grid.rows) (λ k. of_time k + of_date k) (λ k. cost_in w.grid k (sets k)) (λ k lt. sym (slot_by k lt sets unions (nat_lt (p + k) 60) refl))

    pub hour_small : AreSmall w.grid
        → layered_cost w.grid.station (cost_at w.grid.rows) (length w.grid.rows) p first rest + part_cost w.grid p left ≤ most_cost w.grid
    hour_small small =
        let bound = sum_below_bound (length w.grid.rows) (w.grid.receivers * RECEIVER_COST) (λ k. of_time k + of_date k) (λ k lt. both_small k lt (nat_lt (p + k) 60) refl small) in
        omega (arith, sum_of_two (length w.grid.rows) of_time of_date, bound)

-- an hour that is kept, with the date of its run
pub kept_hour : (w : PricedParts) (begin : ℕ) (call : List ℕ) (firsts rests : List (List ℕ)) (costs : List ℕ) → AreHours w begin call firsts rests costs
    → IsPartTable w.parts → w.parts.station ≡ w.grid.station
    → (announced : Bool) (i p lo hour cost : ℕ) → i < length w.parts.runs → p < 60 → hour < length firsts
    → 60 * hour + begin ≡ (lo + (run_at w.parts.runs i).shift) % 1440 → first_of w.parts.runs i ≤ lo
    → lo + 60 + later_minutes (length w.grid.rows) p ≤ end_of_run w.parts.runs w.parts.end i
    → ((t : ℕ) → lo ≤ t → t < lo + 60 + later_minutes (length w.grid.rows) p → minute_length announced t ≡ 60)
    → ((s : ℕ) → s < 60 → get_or (part_where announced (run_at w.parts.runs i)) s 0 < 256)
    → ((s : ℕ) → is_given_up w.grid.station s ≡ true → bit_or (get_or call s 0) (get_or (part_where announced (run_at w.parts.runs i)) s 0) ≡ get_or call s 0)
    → ((q : PartTable) (a : Bool) (j from m v s time : ℕ) → IsPartTable q → j < length q.runs → first_of q.runs j ≤ from + m
    → from + m + 60 ≤ end_of_run q.runs q.end j → ((t : ℕ) → from + m ≤ t → t < from + m + 60 → minute_length a t ≡ 60)
    → s < 60 → v ≡ (from + (run_at q.runs j).shift) % 1440 → IsUnionOf (time_at q.times s) (v + m) (v + m + 60) time
    → bit_or time (get_or (part_where a (run_at q.runs j)) s 0) < 256
    → IsUnionOver q.station a (from + m) (from + m + 60) s (bit_or time (get_or (part_where a (run_at q.runs j)) s 0)))
    → AreSmall w.grid → cost ≡ get_or costs (p * 24 + hour) 0 + part_cost w.grid p (kept w.grid.station (part_where announced (run_at w.parts.runs i)))
    → IsHourCost w announced p lo cost
kept_hour w begin call firsts rests costs hours table own announced i p lo hour cost is second within minute begun ends short bytes covered law small total =
    let reach = later_minutes (length w.grid.rows) 59 in
    let u : ℕ = 60 * hour + begin in
    let reached : later_minutes (length w.grid.rows) p ≤ reach = omega (arith, second) in
    let first = part_at firsts hour in
    let rest = part_at rests hour in
    let date = part_where announced (run_at w.parts.runs i) in
    let layer = hours.layers.each hour within in
    let in_first = λ (s : ℕ) (given : is_given_up w.grid.station s ≡ true).
    subst (λ x. bit_or x (get_or date s 0) ≡ x) (sym (layer.at_call s given).0) (covered s given) in
    let in_rest = λ (s : ℕ) (given : is_given_up w.grid.station s ≡ true).
    subst (λ x. bit_or x (get_or date s 0) ≡ x) (sym (layer.at_call s given).1) (covered s given) in
    let in_day : hour < 24 = omega (arith, minute) in
    let priced : get_or costs (p * 24 + hour) 0 ≡ layered_cost w.grid.station (cost_at w.grid.rows) (length w.grid.rows) p first rest =
    hours.priced.each p hour second in_day
    ∙ ap (λ (b : Bool). if b then layered_cost w.grid.station (cost_at w.grid.rows) (length w.grid.rows) p first rest else 0) (lt-ltb hour (length firsts) within) in
    record {
      cost_is = λ sets unions.
          omega (
            arith,
            total,
            priced,
            hour_cost w table own announced i is p lo u reach first rest second layer.layers minute reached begun ends short bytes in_first in_rest law sets unions,
          );
      bound =
          omega (
            arith,
            total,
            priced,
            hour_small w table own announced i is p lo u reach first rest second layer.layers minute reached begun ends short bytes in_first in_rest law small,
          );
    }

-- one hour more
pub hours_more : (w : PricedParts) (begin : ℕ) (call : List ℕ) (firsts rests : List (List ℕ)) (first rest : List ℕ) → AreHourLayers w begin call firsts rests
    → IsHourLayer w begin (length firsts) call first rest → AreHourLayers w begin call (firsts ++ first ∷ []) (rests ++ rest ∷ [])
hours_more w begin call firsts rests first rest are new =
    let n : ℕ = length firsts in
    record {
      as_many = omega (arith, length_push firsts first, length_push rests rest, are.as_many);
      each = λ h lt. elim (cases_lt h n) [
        | inl early ↦ subst (λ (x : List ℕ). IsHourLayer w begin h call x (part_at (rests ++ rest ∷ []) h)) (sym (get_or-append firsts (first ∷ []) [] h early))
            (subst (λ (y : List ℕ). IsHourLayer w begin h call (part_at firsts h) y)
            (sym (get_or-append rests (rest ∷ []) [] h (omega (arith, early, are.as_many)))) (are.each h early))
        | inr late ↦ (
            let last : n ≡ h = omega (arith, lt, late, length_push firsts first) in
            subst (λ (x : List ℕ). IsHourLayer w begin h call x (part_at (rests ++ rest ∷ []) h)) (sym (get_or_push firsts first [] h last))
            (subst (λ (y : List ℕ). IsHourLayer w begin h call first y) (sym (get_or_push rests rest [] h (omega (arith, last, are.as_many))))
            (subst (λ m. IsHourLayer w begin m call first rest) last new)))
      ];
    }

-- unions with the announcement are those without it where the minutes carry the same
pub unannounced_unions : (station : Station) (p lo hi n later : ℕ) (sets : ℕ → ℕ) → p < 60 → later ≡ later_minutes n p
    → ((t s : ℕ) → lo ≤ t → t ≤ hi - 1 + later → s < 60 → allowed station true (t, s) ≡ allowed station false (t, s))
    → AreUnionsOfWalks station true p lo hi n sets → AreUnionsOfWalks station false p lo hi n sets
unannounced_unions station p lo hi n later sets second is same unions = λ k lt.
    let m : ℕ = (p + k) / 60 in
    let s : ℕ = (p + k) % 60 in
    union_same (λ t. allowed station true (t, s)) (λ t. allowed station false (t, s)) (lo + m) (hi + m) (sets k)
    (λ t from to. same t s (omega (arith, from)) (omega (arith, to, is, lt)) (omega arith)) (unions k lt)
