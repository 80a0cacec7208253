-- What dates cost in the seconds that are given up for the call sign, and the least of all walks of a kind.
use Rattle.std.proofs.Common.{◌≡◌, ℕ, ◌+◌, ◌*◌, ◌/◌, ◌%◌, ◌<◌, ◌≤◌, ◌⊎◌, inl, inr, Bool, true, false, ◌==◌, if◌then◌else◌, List, [], ◌∷◌, ◌++◌, length, get_or, min, refl, sym, ap, ◌∙◌, subst, arith}
use Rattle.std.proofs.Math.ListN.{get_or-append}
use Rattle.std.proofs.lemmas.Bool.{cases_lt, eq-eqb, ne_eqb}
use Rattle.std.proofs.lemmas.List.{get_or_default, get_or_push, length_push}
use Rattle.std.proofs.lemmas.List.FromFn.{get_or-map-range_with_len}
use Rattle.signal_base.specs.declared.station.Station.{Station}
use Rattle.definitions.specs.heard.Costs.{sum_below}
use Rattle.definitions.proofs.CostLaws.{sum_below_same}
use Rattle.symbol_cost.specs.Grid.{Grid, cost_at}
use Rattle.minute_parts.specs.Overlay.{is_given_up}
use Rattle.minute_parts.specs.Parts.{PartTable, part_where}
use Rattle.minute_parts.specs.Runs.{run_at}
use Rattle.minute_parts.specs.Walks.{later_minutes}
use Rattle.slot_columns.specs.Parts.{AreWalkCosts, entry}
use Rattle.slot_columns.specs.Layered.{AreAdded, AreGroups}
use Rattle.slot_columns.proofs.SetLaws.{none_chosen}
use Rattle.walk_costs.specs.declared.thirds.Split.{Split}
use Rattle.walk_costs.specs.declared.kinds.Kind.{Kind}
use Rattle.walk_costs.specs.declared.least.Begins.{Begins}
use Rattle.walk_costs.specs.declared.least.LeastTable.{LeastTable}
use Rattle.walk_costs.specs.Dates.{given_cost, given_up_set, minutes_to_call}
use Rattle.walk_costs.specs.Kinds.{AreKindsOf, AreSame, HasPlace, IsBegin, IsKindOf, IsToldAlike, either_part, either_set, end_in, kind_at, no_kind, told_of}
use Rattle.walk_costs.specs.Leasts.{AreBegins, AreLeast, AreThirdCosts, AreThirds, IsLeastBy, IsLeastOf, IsOneOf, IsRowAt, IsSplit, IsSplitIn, IsSplitOf, IsSplitTo, IsThirdRow, begin_count, call_class, no_split, place_of_run, split_at, third_at}
use Rattle.walk_costs.proofs.CallLaws.{in_call}
use Rattle.walk_costs.proofs.DateLaws.{given, given_sum, none_later}
use Rattle.walk_costs.proofs.SumLaws.{cost_in, sum_of_two}
use Rattle.walk_costs.proofs.WalkLaws.{lost, lost_sum}

-- what two parts tell together in a second
pub either_at : (a b : List ℕ) (s : ℕ) → s < 60 → get_or (either_part a b) s 0 ≡ either_set (get_or a s 0) (get_or b s 0)
unfolding either_part
either_at a b s lt = get_or-map-range_with_len (λ x. either_set (get_or a x 0) (get_or b x 0)) 0 60 s s 0 lt (omega arith)

module _ (grid : Grid) (p : ℕ) where
  abbrev n : ℕ
  n = length grid.rows

  -- what a part costs in a slot, in the seconds that are given up and in another walk minute than m
  abbrev pub given_in : ℕ → List ℕ → ℕ → ℕ
  given_in m part k = if (p + k) / 60 == m then 0 else cost_in grid k (given_up_set grid.station part ((p + k) % 60))

  pub given_by_slot : (m : ℕ) (part : List ℕ) → given_cost grid p m part ≡ sum_below n (given_in m part)
  given_by_slot m part =
      let both = sum_below_same n (given grid p part) (λ k. lost grid p m part k + given_in m part k) (λ k within. slot (given grid p part k) ((p + k) / 60 == m)) in
      omega (arith, given_sum grid p part, both, sum_of_two n (lost grid p m part) (given_in m part), lost_sum grid p m part)
    where
      slot : (cost : ℕ) (here : Bool) → cost ≡ (if here then cost else 0) + (if here then 0 else cost)
      slot cost true = omega arith
      slot cost false = omega arith

  -- parts that tell the same there cost the same
  pub same_given : (m : ℕ) (a b : List ℕ) → ((s : ℕ) → s < 60 → is_given_up grid.station s ≡ true → get_or a s 0 ≡ get_or b s 0) → given_cost grid p m a ≡ given_cost grid p m b
  same_given m a b same =
      given_by_slot m a
      ∙ sum_below_same n (given_in m a) (given_in m b)
      (λ k within. ap (λ set. if (p + k) / 60 == m then 0 else cost_in grid k set) (by_test ((p + k) % 60) (is_given_up grid.station ((p + k) % 60)) (same ((p + k) % 60) (omega arith))))
      ∙ sym (given_by_slot m b)
    where
      by_test : (s : ℕ) (gives : Bool) → (gives ≡ true → get_or a s 0 ≡ get_or b s 0) → (if gives then get_or a s 0 else 0) ≡ (if gives then get_or b s 0 else 0)
      by_test s true is = is refl
      by_test s false is = refl

  -- three thirds cost what the whole does
  pub thirds_together : (m : ℕ) (told low middle high : List ℕ) → IsSplit told low middle high
      → given_cost grid p m told ≡ given_cost grid p m low + given_cost grid p m middle + given_cost grid p m high
  thirds_together m told low middle high split =
      let both = sum_below_same n (given_in m told) (λ k. given_in m low k + (given_in m middle k + given_in m high k))
      (λ k within. slot k ((p + k) % 60) ((p + k) / 60 == m) (is_given_up grid.station ((p + k) % 60))
      (λ gives. let call = in_call grid.station ((p + k) % 60) gives in split ((p + k) % 60) call.0 call.1)) in
      omega (
        arith,
        both,
        given_by_slot m told,
        given_by_slot m low,
        given_by_slot m middle,
        given_by_slot m high,
        sum_of_two n (given_in m low) (λ k. given_in m middle k + given_in m high k),
        sum_of_two n (given_in m middle) (given_in m high),
      )
    where
      by_third : (k s : ℕ) → IsOneOf told low middle high s ⊎ IsOneOf told middle low high s ⊎ IsOneOf told high low middle s
          → cost_in grid k (get_or told s 0) ≡ cost_in grid k (get_or low s 0) + (cost_in grid k (get_or middle s 0) + cost_in grid k (get_or high s 0))
      by_third k s (inl is) = omega (arith, ap (cost_in grid k) is.0, ap (cost_in grid k) is.1, ap (cost_in grid k) is.2, none_chosen grid.station (cost_at grid.rows k))
      by_third k s (inr (inl is)) = omega (arith, ap (cost_in grid k) is.0, ap (cost_in grid k) is.1, ap (cost_in grid k) is.2, none_chosen grid.station (cost_at grid.rows k))
      by_third k s (inr (inr is)) = omega (arith, ap (cost_in grid k) is.0, ap (cost_in grid k) is.1, ap (cost_in grid k) is.2, none_chosen grid.station (cost_at grid.rows k))

      slot : (k s : ℕ) (here gives : Bool)
          → (gives ≡ true → IsOneOf told low middle high s ⊎ IsOneOf told middle low high s ⊎ IsOneOf told high low middle s)
          → (if here then 0 else cost_in grid k (if gives then get_or told s 0 else 0))
          ≡ (if here then 0 else cost_in grid k (if gives then get_or low s 0 else 0))
          + ((if here then 0 else cost_in grid k (if gives then get_or middle s 0 else 0)) + (if here then 0 else cost_in grid k (if gives then get_or high s 0 else 0)))
      slot k s true gives is = refl
      slot k s false true is = by_third k s (is refl)
      slot k s false false is = omega (arith, none_chosen grid.station (cost_at grid.rows k))

  -- a walk that ends before the call sign loses nothing to it, whenever it comes
  alike_later : (m j : ℕ) (part : List ℕ) → later_minutes n p < m → later_minutes n p < j → given_cost grid p m part ≡ given_cost grid p j part
  alike_later m j part late too = omega (arith, none_later grid p part m late, none_later grid p part j too)

  pub by_class : (reached m : ℕ) (part : List ℕ) → reached ≡ later_minutes n p + 1 → given_cost grid p (min m reached) part ≡ given_cost grid p m part
  by_class reached m part count = elim (cases_lt m reached) [
    | inl lt ↦ (let same : min m reached ≡ m = omega (arith, lt) in ap (λ (j : ℕ). given_cost grid p j part) same)
    | inr le ↦ (
        let same : min m reached ≡ reached = omega (arith, le) in
        ap (λ (j : ℕ). given_cost grid p j part) same ∙ alike_later reached m part (omega (arith, count)) (omega (arith, count, le)))
  ]

-- a kind that is the same as another is of the same walks
pub same_kind : (parts : PartTable) (station : Station) (across announced : Bool) (i : ℕ) (kind other : Kind) → AreSame other kind
    → IsKindOf parts station across announced i kind → IsKindOf parts station across announced i other
same_kind parts station across announced i kind other same is = record {
  told = λ s within lt gives. let call = in_call station s gives in same.told s call.0 call.1 ∙ is.told s within lt gives;
  last = λ within. same.last ∙ is.last within;
}

-- one kind more
pub one_more_kind : (parts : PartTable) (station : Station) (across : Bool) (all new : List Kind) (places more : List ℕ) (kind : Kind) (n : ℕ)
    → AreKindsOf parts station across all places n → HasPlace all new places more kind → IsKindOf parts station across (n % 2 == 1) (n / 2) kind
    → AreKindsOf parts station across new more (n + 1)
one_more_kind parts station across all new places more kind n are has is =
    subst (λ (xs : List ℕ). AreKindsOf parts station across new xs (n + 1)) (sym has.added)
    (record {
      count = omega (arith, length_push places has.place, are.count);
      within = λ q lt. elim (cases_lt q n) [
        | inl early ↦ omega (arith, ap (λ (j : ℕ). j) (before q early), are.within q early, has.placed.longer)
        | inr late ↦ omega (arith, last q lt late, has.placed.within)
      ];
      each = λ q lt. elim (cases_lt q n) [
        | inl early ↦ subst (λ (j : ℕ). IsKindOf parts station across (q % 2 == 1) (q / 2) (kind_at new j)) (sym (before q early))
            (subst (λ (k : Kind). IsKindOf parts station across (q % 2 == 1) (q / 2) k) (sym (has.placed.kept (get_or places q 0) (are.within q early))) (are.each q early))
        | inr late ↦ (
            let here : n ≡ q = omega (arith, lt, late) in
            subst (λ (j : ℕ). IsKindOf parts station across (q % 2 == 1) (q / 2) (kind_at new j)) (sym (last q lt late))
            (subst (λ (m : ℕ). IsKindOf parts station across (m % 2 == 1) (m / 2) (kind_at new has.place)) here
            (same_kind parts station across (n % 2 == 1) (n / 2) kind (kind_at new has.place) has.placed.same is)))
      ];
    })
  where
    before : (q : ℕ) → q < n → get_or (places ++ has.place ∷ []) q 0 ≡ get_or places q 0
    before q early = get_or-append places (has.place ∷ []) 0 q (omega (arith, early, are.count))

    last : (q : ℕ) → q < n + 1 → n ≤ q → get_or (places ++ has.place ∷ []) q 0 ≡ has.place
    last q lt late = get_or_push places has.place 0 q (omega (arith, lt, late, are.count))

-- what is told of walks in runs that tell the same with the announcement and without it
pub announced_alike : (parts : PartTable) (station : Station) (across : Bool) (i : ℕ) (kind : Kind) → IsKindOf parts station across false i kind
    → IsToldAlike (run_at parts.runs i) → (end_in across i < length parts.runs → IsToldAlike (run_at parts.runs (end_in across i)))
    → IsKindOf parts station across true i kind
announced_alike parts station across i kind is one other = record {
  told = λ s within lt gives.
      is.told s within lt gives
      ∙ ap (λ (a : List ℕ). get_or (either_part a (part_where false (run_at parts.runs (end_in across i)))) s 0) one
      ∙ ap (λ (b : List ℕ). get_or (either_part (part_where true (run_at parts.runs i)) b) s 0) (other within);
  last = is.last;
}

-- the thirds of one kind more
pub one_more_split : (kinds all new : List Kind) (splits more : List Split) (split : Split) (n : ℕ) → AreThirds kinds all splits n → IsSplitTo all new (kind_at kinds n).told split
    → more ≡ splits ++ split ∷ [] → AreThirds kinds new more (n + 1)
one_more_split kinds all new splits more split n are is added =
    subst (λ (xs : List Split). AreThirds kinds new xs (n + 1)) (sym added)
    (record {
      count = omega (arith, length_push splits split, are.count);
      within = λ k lt. elim (cases_lt k n) [
        | inl early ↦ subst (λ (x : Split). IsSplitIn x (length new)) (sym (before k early)) (wider (split_at splits k) (are.within k early))
        | inr late ↦ subst (λ (x : Split). IsSplitIn x (length new)) (sym (last k lt late)) is.within
      ];
      each = λ k lt. elim (cases_lt k n) [
        | inl early ↦ subst (λ (x : Split). IsSplitOf (kind_at kinds k).told new x) (sym (before k early)) (moved k (split_at splits k) (are.within k early) (are.each k early))
        | inr late ↦ (
            let here : n ≡ k = omega (arith, lt, late) in
            subst (λ (x : Split). IsSplitOf (kind_at kinds k).told new x) (sym (last k lt late))
            (subst (λ (j : ℕ). IsSplitOf (kind_at kinds j).told new split) here is.each))
      ];
    })
  where
    before : (k : ℕ) → k < n → split_at (splits ++ split ∷ []) k ≡ split_at splits k
    before k early = get_or-append splits (split ∷ []) no_split k (omega (arith, early, are.count))

    last : (k : ℕ) → k < n + 1 → n ≤ k → split_at (splits ++ split ∷ []) k ≡ split
    last k lt late = get_or_push splits split no_split k (omega (arith, lt, late, are.count))

    wider : (x : Split) → IsSplitIn x (length all) → IsSplitIn x (length new)
    wider x inside = record {
      low = omega (arith, inside.low, is.longer);
      middle = omega (arith, inside.middle, is.longer);
      high = omega (arith, inside.high, is.longer);
    }

    moved : (k : ℕ) (x : Split) → IsSplitIn x (length all) → IsSplitOf (kind_at kinds k).told all x → IsSplitOf (kind_at kinds k).told new x
    moved k x inside each =
        subst (λ (h : Kind). IsSplit (kind_at kinds k).told h.told (kind_at new x.middle).told (kind_at new x.high).told) (sym (is.kept x.low inside.low))
        (subst (λ (h : Kind). IsSplit (kind_at kinds k).told (kind_at all x.low).told h.told (kind_at new x.high).told) (sym (is.kept x.middle inside.middle))
        (subst (λ (h : Kind). IsSplit (kind_at kinds k).told (kind_at all x.low).told (kind_at all x.middle).told h.told) (sym (is.kept x.high inside.high)) each))

-- the row of a third, wherever its place comes from
third_is : (rows : List (List ℕ)) (i j m : ℕ) (d : List ℕ) → i ≡ j → j < length rows → get_or (get_or rows i d) m 0 ≡ entry rows j m
third_is rows i j m d same lt =
    ap (λ (n : ℕ). get_or (get_or rows n d) m 0) same ∙ ap (λ (r : List ℕ). get_or r m 0) (get_or_default rows j d [] lt)

-- the least of one kind more
pub least_more : (walks : List (List ℕ)) (kinds : List Kind) (splits : List Split) (rows : List (List ℕ)) (p n reached k : ℕ) (begins : Begins) (least : ℕ)
    (kind : Kind) (split : Split) (low middle high : List ℕ) → AreBegins walks p n reached begins → begins.last ≡ (get_or kinds k kind).last
    → k < length kinds → k < length splits → IsSplitIn (split_at splits k) (length rows)
    → ((m : ℕ) → begins.first ≤ m → m ≤ reached
    → least ≤ get_or begins.costs m 0 + get_or (get_or rows (get_or splits k split).low low) m 0 + get_or (get_or rows (get_or splits k split).middle middle) m 0
    + get_or (get_or rows (get_or splits k split).high high) m 0)
    → IsLeastBy walks kinds splits rows p n reached k least
least_more walks kinds splits rows p n reached k begins least kind split low middle high are last in_kinds in_splits within found = λ u begin.
    let m : ℕ = call_class reached u in
    let ends = last ∙ ap (λ (x : Kind). x.last) (get_or_default kinds k kind no_kind in_kinds) in
    let here = subst (λ (l : ℕ). IsBegin n l u) (sym ends) begin in
    let below : call_class reached u ≤ reached = omega arith in
    let same = get_or_default splits k split no_split in_splits in
    omega (
      arith,
      found m (are.first u here) below,
      are.least u here,
      third_is rows (get_or splits k split).low (split_at splits k).low m low (ap (λ (x : Split). x.low) same) within.low,
      third_is rows (get_or splits k split).middle (split_at splits k).middle m middle (ap (λ (x : Split). x.middle) same) within.middle,
      third_is rows (get_or splits k split).high (split_at splits k).high m high (ap (λ (x : Split). x.high) same) within.high,
    )

-- the least of each kind by its thirds is that by what its dates tell
pub by_thirds : (grid : Grid) (walks : List (List ℕ)) (kinds all : List Kind) (splits : List Split) (rows : List (List ℕ)) (across : Bool) (p n reached : ℕ) (old new : List ℕ)
    → AreThirds kinds all splits (length kinds) → AreThirdCosts grid p all rows (length all) → n ≡ begin_count (length grid.rows) across p
    → reached ≡ later_minutes (length grid.rows) p + 1
    → AreAdded 0 (IsLeastBy walks kinds splits rows p n reached) old new (length kinds) → AreAdded 0 (IsLeastOf grid walks kinds across p) old new (length kinds)
by_thirds grid walks kinds all splits rows across p n reached old new thirds costs count minutes added = record {
  count = added.count;
  kept = added.kept;
  each = λ k lt u begin.
      let m : ℕ = call_class reached u in
      let few : m < 30 = omega (arith, minutes_below u) in
      let split = split_at splits k in
      let within = thirds.within k lt in
      omega (
        arith,
        added.each k lt u (subst (λ (c : ℕ). IsBegin c (kind_at kinds k).last u) (sym count) begin),
        costs.each split.low m within.low few,
        costs.each split.middle m within.middle few,
        costs.each split.high m within.high few,
        thirds_together grid p m (kind_at kinds k).told (kind_at all split.low).told (kind_at all split.middle).told (kind_at all split.high).told (thirds.each k lt),
        by_class grid p reached (minutes_to_call u) (kind_at kinds k).told minutes,
      );
}
  where
    minutes_below : (u : ℕ) → minutes_to_call u < 30
    minutes_below u = omega arith

-- copies of what all thirds cost are their rows
pub thirds_added : (grid : Grid) (all : List Kind) (rows old new : List (List ℕ)) (p : ℕ) → AreThirdCosts grid p all rows (length all)
    → AreAdded [] (IsRowAt rows) old new (length rows) → AreAdded [] (IsThirdRow grid all p) old new (length all)
thirds_added grid all rows old new p costs added = record {
  count = omega (arith, added.count, costs.count);
  kept = added.kept;
  each = λ h lt.
      subst (IsThirdRow grid all p h) (sym (added.each h (omega (arith, lt, costs.count))))
      (record { each = λ m few. costs.each h m lt few; small = λ m few. costs.small h m lt few });
}

-- the places of a run
pub place_is : (announced : Bool) (i : ℕ) → ((place_of_run announced i % 2 == 1) ≡ announced) × (place_of_run announced i / 2 ≡ i)
place_is true i = (eq-eqb ((2 * i + 1) % 2) 1 (omega arith), omega arith)
place_is false i = (ne_eqb (2 * i % 2) 1 (λ e. omega (arith, e)), omega arith)

pub place_lt : (announced : Bool) (i n : ℕ) → i < n → place_of_run announced i < 2 * n
place_lt true i n lt = omega arith
place_lt false i n lt = omega arith

pub begins_before : (across : Bool) (i n : ℕ) → end_in across i < n → i < n
begins_before true i n lt = omega (arith, lt)
begins_before false i n lt = lt

-- the least of all walks, by kinds
pub are_least : (grid : Grid) (parts : PartTable) (walks : List (List ℕ)) (across : Bool) (kinds all : List Kind) (table : LeastTable) → AreWalkCosts walks grid parts.times
    → AreKindsOf parts grid.station across kinds table.places.items (2 * length parts.runs) → AreThirds kinds all table.splits.items (length kinds)
    → AreGroups 0 (IsLeastOf grid walks kinds across) (length kinds) table.costs.items 60 → AreGroups [] (IsThirdRow grid all) (length all) table.given.items 60
    → table.kinds ≡ length kinds → table.thirds ≡ length all → AreLeast parts grid across table
are_least grid parts walks across kinds all table priced of split are rows count thirds = record {
  sums = record {
    costs = omega (arith, are.count, ap (λ n. 60 * n) count);
    places = of.count;
    within = λ q lt. omega (arith, of.within q lt, count);
    splits = omega (arith, split.count, count);
    thirds = λ k lt. subst (IsSplitIn (split_at table.splits.items k)) (sym thirds) (split.within k (omega (arith, lt, count)));
    given = omega (arith, rows.count, ap (λ n. 60 * n) thirds);
    small = λ p h m second lt few. omega (arith, row p h m, (rows.each p h second (omega (arith, lt, thirds))).small m few);
  };
  each = λ announced i p u is_end second day begin.
      let place : ℕ = get_or table.places.items (place_of_run announced i) 0 in
      let lt = place_lt announced i (length parts.runs) (begins_before across i (length parts.runs) is_end) in
      let begin_too = subst (λ (last : ℕ). IsBegin (begin_count (length grid.rows) across p) last u) (sym ((kind announced i is_end).last is_end)) begin in
      omega (
        arith,
        ap (λ n. get_or table.costs.items (p * n + place) 0) count,
        are.each p place second (of.within (place_of_run announced i) lt) u begin_too,
        told announced i p (minutes_to_call u) is_end,
        priced.each p u second day,
      );
  given = λ announced i p m is_end second few.
      let lt = place_lt announced i (length parts.runs) (begins_before across i (length parts.runs) is_end) in
      let place : ℕ = get_or table.places.items (place_of_run announced i) 0 in
      let x = split_at table.splits.items place in
      let inside = split.within place (of.within (place_of_run announced i) lt) in
      omega (
        arith,
        third p x.low m second inside.low few,
        third p x.middle m second inside.middle few,
        third p x.high m second inside.high few,
        thirds_together grid p m (kind_at kinds place).told (kind_at all x.low).told (kind_at all x.middle).told (kind_at all x.high).told
            (split.each place (of.within (place_of_run announced i) lt)),
        told announced i p m is_end,
      );
}
  where
    kind : (announced : Bool) (i : ℕ) → end_in across i < length parts.runs
        → IsKindOf parts grid.station across announced i (kind_at kinds (get_or table.places.items (place_of_run announced i) 0))
    kind announced i is_end =
        let lt = place_lt announced i (length parts.runs) (begins_before across i (length parts.runs) is_end) in
        let place : ℕ = get_or table.places.items (place_of_run announced i) 0 in
        let is_place = place_is announced i in
        subst (λ (j : ℕ). IsKindOf parts grid.station across announced j (kind_at kinds place)) is_place.1
        (subst (λ (b : Bool). IsKindOf parts grid.station across b (place_of_run announced i / 2) (kind_at kinds place)) is_place.0 (of.each (place_of_run announced i) lt))

    -- the kind costs what its dates do in the seconds that are given up
    told : (announced : Bool) (i p m : ℕ) → end_in across i < length parts.runs
        → given_cost grid p m (kind_at kinds (get_or table.places.items (place_of_run announced i) 0)).told ≡ given_cost grid p m (told_of parts across announced i)
    told announced i p m is_end =
        same_given grid p m (kind_at kinds (get_or table.places.items (place_of_run announced i) 0)).told (told_of parts across announced i)
        (λ s of_minute gives. (kind announced i is_end).told s is_end of_minute gives)

    row : (p h m : ℕ) → third_at table p h m ≡ entry table.given.items (p * length all + h) m
    row p h m = ap (λ n. entry table.given.items (p * n + h) m) thirds

    third : (p h m : ℕ) → p < 60 → h < length all → m < 30 → third_at table p h m ≡ given_cost grid p m (kind_at all h).told
    third p h m second lt few = row p h m ∙ (rows.each p h second lt).each m few
