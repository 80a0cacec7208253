-- What no walk through minutes of two runs costs less than, which may be one: what its time of day costs, and what sets cost that
-- hold both dates.
use Rattle.std.proofs.Common.{◌≡◌, ℕ, ◌+◌, ◌/◌, ◌%◌, ◌<◌, ◌≤◌, ◌⊎◌, inl, inr, Bool, true, false, ◌==◌, ◌&&◌, bit_or, if◌then◌else◌, List, length, get_or, refl, sym, ap, ◌∙◌, subst, arith}
use Rattle.std.proofs.lemmas.Bool.{and_left, and_right, cases_Bool, cases_eq, eq-eqb, ne_eqb, or_from}
use Rattle.std.proofs.lemmas.List.FromFn.{get_or-map-range_with_len}
use Rattle.signal_base.specs.declared.station.Station.{Station}
use Rattle.signal_base.specs.Mask.{has_bit}
use Rattle.definitions.specs.codes.Allowed.{IsSetOf, allowed}
use Rattle.definitions.specs.heard.Costs.{set_cost, sum_below}
use Rattle.definitions.specs.time.Calendar.{minute_length}
use Rattle.definitions.proofs.SetLaws.{sent}
use Rattle.definitions.proofs.UnionLaws.{IsWithin, wider_costs_no_more}
use Rattle.symbol_cost.specs.Grid.{cost_at}
use Rattle.minute_parts.specs.Overlay.{is_given_up, is_time_second, overlay}
use Rattle.minute_parts.specs.Parts.{IsInRun, local_time, part_where, times_at}
use Rattle.minute_parts.specs.Runs.{run_at}
use Rattle.minute_parts.specs.Walks.{later_minutes}
use Rattle.minute_parts.proofs.UnionLaws.{has_or}
use Rattle.slot_columns.specs.Layered.{AreLayerCosts, LayerSums, part_at, places_of, places_together, together}
use Rattle.slot_columns.specs.Parts.{minute_cost, most_cost, walk_cost}
use Rattle.slot_columns.specs.Rows.{index_of}
use Rattle.slot_columns.proofs.SetLaws.{index_at, index_bound, none_chosen, or_index}
use Rattle.walk_costs.specs.Dates.{IsAdded, given_cost, given_up, given_up_set, kept, kept_set, minutes_to_call, part_cost}
use Rattle.walk_costs.specs.Kinds.{either_part, either_set}
use Rattle.walk_costs.specs.Walks.{AreDateCosts, ArePairsOf, ArePriced, MayAdd, PricedParts, cost_of, kept_of, last_minute, pair_of}
use Rattle.walk_costs.proofs.LeastLaws.{either_at, given_by_slot, given_in}
use Rattle.walk_costs.proofs.ScoredLaws.{scored, small_set}
use Rattle.walk_costs.proofs.SplitLaws.{call_minute, calls, tells_by}
use Rattle.walk_costs.proofs.SumLaws.{at_second, cost_in, part_by_second, sum_le, sum_of_two}
use Rattle.walk_costs.proofs.WalkLaws.{AreRunsOf, date_in, lost, lost_here, lost_in_slot, lost_sum, part_by, total_by_runs, with_dut1}

-- The sets hold what a date tells in the seconds that aren't given up, and tell nothing of the others, nor of the time of day.
pub record HoldDate (station : Station) (date sets : List ℕ) : Type 0 where
  pub small : (s : ℕ) → s < 60 → get_or sets s 0 < 32
  pub given : (s : ℕ) → s < 60 → is_given_up station s ≡ true → get_or sets s 0 ≡ 0
  pub timed : (s : ℕ) → s < 60 → is_given_up station s ≡ false → is_time_second station s ≡ true → get_or sets s 0 ≡ 0
  pub held : (s : ℕ) → s < 60 → is_given_up station s ≡ false → IsWithin (index_of (get_or date s 0)) (get_or sets s 0)

-- and what two dates tell
abbrev pub HoldBoth : Station → List ℕ → List ℕ → List ℕ → Type 0
HoldBoth station a b sets = HoldDate station a sets × HoldDate station b sets

-- What is kept of two dates, together.
module _ (station : Station) (a b : List ℕ) where
  abbrev pub kept_together : List ℕ
  kept_together = together (kept station a) (kept station b)

  pub kept_at : (s : ℕ) → s < 60 → get_or kept_together s 0 ≡ bit_or (index_of (kept_set station a s)) (index_of (kept_set station b s))
  unfolding together kept
  kept_at s lt =
      get_or-map-range_with_len (places_together (kept station a) (kept station b)) 0 60 s s 0 lt (omega arith)
      ∙ ap (λ x. bit_or (index_of x) (places_of (kept station b) s)) (at_second (kept_set station a) (kept station a) s refl lt)
      ∙ ap (λ x. bit_or (index_of (kept_set station a s)) (index_of x)) (at_second (kept_set station b) (kept station b) s refl lt)

  pub kept_small : (s : ℕ) → s < 60 → get_or kept_together s 0 < 32
  kept_small s lt =
      omega (
        arith,
        kept_at s lt,
        or_index (index_of (kept_set station a s)) (index_of (kept_set station b s)) (index_bound (kept_set station a s)) (index_bound (kept_set station b s)),
      )

  -- nothing of a second that is given up
  pub none_given_up : (s : ℕ) → s < 60 → is_given_up station s ≡ true → get_or kept_together s 0 ≡ 0
  none_given_up s lt gives =
      kept_at s lt ∙ ap (λ (g : Bool). bit_or (index_of (if g then 0 else get_or a s 0)) (index_of (if g then 0 else get_or b s 0))) gives

  -- and of another the sets of both dates
  pub both_sets : (s : ℕ) → s < 60 → is_given_up station s ≡ false → get_or kept_together s 0 ≡ bit_or (index_of (get_or a s 0)) (index_of (get_or b s 0))
  both_sets s lt keeps =
      kept_at s lt ∙ ap (λ (g : Bool). bit_or (index_of (if g then 0 else get_or a s 0)) (index_of (if g then 0 else get_or b s 0))) keeps

  pub none_told : (s : ℕ) → s < 60 → is_given_up station s ≡ false → get_or a s 0 ≡ 0 → get_or b s 0 ≡ 0 → get_or kept_together s 0 ≡ 0
  none_told s lt keeps one other =
      both_sets s lt keeps ∙ ap (λ x. bit_or (index_of x) (index_of (get_or b s 0))) one ∙ ap (λ x. bit_or (index_of 0) (index_of x)) other

  -- it holds both
  module _ (none_of_a : (s : ℕ) → s < 60 → is_time_second station s ≡ true → get_or a s 0 ≡ 0)
      (none_of_b : (s : ℕ) → s < 60 → is_time_second station s ≡ true → get_or b s 0 ≡ 0) where
    hold_of : (date : List ℕ) → ((s n : ℕ) → has_bit (index_of (get_or date s 0)) n ≡ true
        → (has_bit (index_of (get_or a s 0)) n ≡ true) ⊎ (has_bit (index_of (get_or b s 0)) n ≡ true)) → HoldDate station date kept_together
    hold_of date of_one = record {
      small = kept_small;
      given = none_given_up;
      timed = λ s lt keeps timed. none_told s lt keeps (none_of_a s lt timed) (none_of_b s lt timed);
      held = λ s lt keeps n has.
          subst (λ x. has_bit x n ≡ true) (sym (both_sets s lt keeps)) (has_or (index_of (get_or a s 0)) (index_of (get_or b s 0)) n (of_one s n has));
    }

    pub hold_both : HoldBoth station a b kept_together
    hold_both = (hold_of a (λ s n has. inl has), hold_of b (λ s n has. inr has))

-- a set of either date costs no less than what is told of both
pub either_less : (station : Station) (costs : ℕ → ℕ) (a b x : ℕ) → IsSetOf station x → (x ≡ a) ⊎ (x ≡ b) → set_cost station costs (either_set a b) ≤ set_cost station costs x
either_less station costs a b x is one = elim (cases_eq a 255) [
  | inl not_one ↦ omega (arith, none_chosen station costs, ap (λ (t : Bool). set_cost station costs (if t then 0 else if b == 255 then 0 else bit_or (a % 32) (b % 32))) (eq-eqb a 255 not_one))
  | inr a_told ↦ elim (cases_eq b 255) [
    | inl not_other ↦ omega (
      arith,
      none_chosen station costs,
      ap (λ (t : Bool). set_cost station costs (if t then 0 else if b == 255 then 0 else bit_or (a % 32) (b % 32))) (ne_eqb a 255 a_told),
      ap (λ (t : Bool). set_cost station costs (if t then 0 else bit_or (a % 32) (b % 32))) (eq-eqb b 255 not_other),
    )
    | inr b_told ↦ (
        let small = small_set station x is (by_one a_told b_told one) in
        let wider = wider_costs_no_more station costs x (bit_or (a % 32) (b % 32)) is (omega (arith, or_index (a % 32) (b % 32) (omega arith) (omega arith))) (within small one) in
        omega (
          arith,
          wider,
          ap (λ (t : Bool). set_cost station costs (if t then 0 else if b == 255 then 0 else bit_or (a % 32) (b % 32))) (ne_eqb a 255 a_told),
          ap (λ (t : Bool). set_cost station costs (if t then 0 else bit_or (a % 32) (b % 32))) (ne_eqb b 255 b_told),
        ))
  ]
]
  where
    by_one : (a ≡ 255 → ⊥) → (b ≡ 255 → ⊥) → (x ≡ a) ⊎ (x ≡ b) → x ≡ 255 → ⊥
    by_one first second (inl same) = λ e. first (sym same ∙ e)
    by_one first second (inr same) = λ e. second (sym same ∙ e)

    within : x < 32 → (x ≡ a) ⊎ (x ≡ b) → IsWithin x (bit_or (a % 32) (b % 32))
    within small (inl same) = λ n has. let is : x ≡ a % 32 = omega (arith, small, same) in has_or (a % 32) (b % 32) n (inl (ap (λ y. has_bit y n) (sym is) ∙ has))
    within small (inr same) = λ n has. let is : x ≡ b % 32 = omega (arith, small, same) in has_or (a % 32) (b % 32) n (inr (ap (λ y. has_bit y n) (sym is) ∙ has))

-- Walks whose dates are those of two runs, which may be one.
module _ (w : PricedParts) (costs : List (List ℕ)) (more : List ℕ) (priced : ArePriced w.parts w.grid costs more) (announced : Bool) (p i next : ℕ)
    (second : p < 60) (is_run : i < length w.parts.runs) (is_next : next < length w.parts.runs) where
  abbrev st : Station
  st = w.grid.station

  abbrev n : ℕ
  n = length w.grid.rows

  abbrev before : List ℕ
  before = part_where announced (run_at w.parts.runs i)

  abbrev after : List ℕ
  after = part_where announced (run_at w.parts.runs next)

  abbrev pub both_dates : List ℕ
  both_dates = kept_together st before after

  -- what the dates tell in the seconds that are given up, and what that costs but in walk minute m
  abbrev pub told : List ℕ
  told = either_part before after

  abbrev told_in : ℕ → ℕ → ℕ
  told_in m k = given_in w.grid p m told k

  -- what no walk costs less than that begins at the minute u of the local day, by what sets cost that hold its dates
  abbrev pub least_with : ℕ → ℕ → ℕ
  least_with dates u = walk_cost st (cost_at w.grid.rows) n p w.parts.times u + dates + given_cost w.grid p (minutes_to_call u) told

  -- the date tells nothing of the seconds of the time of day
  none_before : (s : ℕ) → s < 60 → is_time_second st s ≡ true → get_or before s 0 ≡ 0
  none_before s lt timed = priced.table.date_alone announced i s is_run lt (ap (λ (x : Station). is_time_second x s) priced.station ∙ timed)

  none_after : (s : ℕ) → s < 60 → is_time_second st s ≡ true → get_or after s 0 ≡ 0
  none_after s lt timed = priced.table.date_alone announced next s is_next lt (ap (λ (x : Station). is_time_second x s) priced.station ∙ timed)

  pub both_held : HoldBoth st before after both_dates
  both_held = hold_both st before after none_before none_after

  nothing_told : (s : ℕ) → s < 60 → is_time_second st s ≡ true → get_or told s 0 ≡ 0
  nothing_told s lt timed =
      either_at before after s lt ∙ ap (λ x. either_set x (get_or after s 0)) (none_before s lt timed) ∙ ap (either_set 0) (none_after s lt timed)

  -- and the time of day nothing of the seconds of the date, but where the call sign takes them
  none_of_date : (v s : ℕ) → v < 1440 → s < 60 → (calls st v && is_given_up st s) ≡ false → is_time_second st s ≡ false → get_or (times_at w.parts v) s 0 ≡ 0
  none_of_date v s day lt keeps untimed =
      let own = w.parts.station in
      let keeps_too = ap (λ (x : Station). calls x v && is_given_up x s) priced.station ∙ keeps in
      let untimed_too = ap (λ (x : Station). is_time_second x s) priced.station ∙ untimed in
      priced.table.time_alone v s day lt (tells_by own v s ∙ or_from _ _ untimed_too keeps_too)

  free_at : (k set : ℕ) → set ≡ 0 → cost_in w.grid k set ≡ 0
  free_at k set is = ap (cost_in w.grid k) is ∙ none_chosen st (cost_at w.grid.rows k)

  -- in walk minute m nothing of what is given up is counted, nor in the other seconds
  none_here : (m k : ℕ) → ((p + k) / 60 == m) ≡ true → told_in m k ≡ 0
  none_here m k here = ap (λ (t : Bool). if t then 0 else cost_in w.grid k (given_up_set st told ((p + k) % 60))) here

  none_kept : (m k : ℕ) → is_given_up st ((p + k) % 60) ≡ false → told_in m k ≡ 0
  none_kept m k keeps =
      ap (λ (g : Bool). if (p + k) / 60 == m then 0 else cost_in w.grid k (if g then get_or told ((p + k) % 60) 0 else 0)) keeps ∙ by_test ((p + k) / 60 == m)
    where
      by_test : (here : Bool) → (if here then 0 else cost_in w.grid k 0) ≡ 0
      by_test true = refl
      by_test false = free_at k 0 refl

  -- and of the others what is told
  told_there : (m k : ℕ) → is_given_up st ((p + k) % 60) ≡ true → ((p + k) / 60 == m) ≡ false → told_in m k ≡ cost_in w.grid k (get_or told ((p + k) % 60) 0)
  told_there m k gives apart =
      ap (λ (t : Bool). if t then 0 else cost_in w.grid k (given_up_set st told ((p + k) % 60))) apart
      ∙ ap (λ (g : Bool). cost_in w.grid k (if g then get_or told ((p + k) % 60) 0 else 0)) gives

  -- no call sign is sent in the walk minutes but that one
  no_call : (u k : ℕ) → k < n → is_given_up st ((p + k) % 60) ≡ true → ((p + k) / 60 == minutes_to_call u) ≡ false
      → (calls st ((u + (p + k) / 60) % 1440) && is_given_up st ((p + k) % 60)) ≡ false
  no_call u k within gives apart =
      and_left _ _ (sym (call_minute st u ((p + k) / 60) ((p + k) % 60) (omega (arith, second, priced.short, within)) gives) ∙ apart)

  -- a set of either date is one of the station's, where the time of day tells nothing
  pub sent_by : (r t s : ℕ) → IsInRun w.parts t r → minute_length announced t ≡ 60 → s < 60 → get_or (times_at w.parts (local_time (run_at w.parts.runs r) t)) s 0 ≡ 0
      → IsSetOf st (get_or (part_where announced (run_at w.parts.runs r)) s 0) × (allowed w.parts.station announced (t, s) ≡ get_or (part_where announced (run_at w.parts.runs r)) s 0)
  sent_by r t s here short lt untold =
      let own = w.parts.station in
      let set : ℕ = get_or (part_where announced (run_at w.parts.runs r)) s 0 in
      let is : allowed own announced (t, s) ≡ set = priced.table.tells announced r t s here short lt ∙ ap (λ x. overlay x set) untold in
      let sent_here : IsSetOf own set = subst (IsSetOf own) is (sent own announced t s (omega (arith, short, lt))) in
      (subst (λ (x : Station). IsSetOf x set) priced.station sent_here, is)

  -- and a small one, in a second that isn't given up
  small_by : (t s set : ℕ) → is_given_up st s ≡ false → IsSetOf st set → allowed w.parts.station announced (t, s) ≡ set → set < 32
  small_by t s set keeps is carried =
      let own = w.parts.station in
      let keeps_too = ap (λ (x : Station). is_given_up x s) priced.station ∙ keeps in
      small_set st set is (λ e. scored own announced t s keeps_too (carried ∙ e))

  -- A walk through minutes of either run, and sets for each minute that hold its date.
  module _ (sets : ℕ → List ℕ) (t0 shift : ℕ) (run_by : ℕ → ℕ) (are : AreRunsOf w announced p t0 shift run_by)
      (one : (m : ℕ) → (run_by m ≡ i) ⊎ (run_by m ≡ next)) (held : (m : ℕ) → HoldDate st (part_where announced (run_at w.parts.runs (run_by m))) (sets m)) where
    -- what they cost in slot k
    abbrev both_in : ℕ → ℕ
    both_in k = cost_in w.grid k (get_or (sets ((p + k) / 60)) ((p + k) % 60) 0)

    abbrev date : ℕ → ℕ
    date = date_in w costs more priced announced p t0 shift run_by are

    abbrev taken : ℕ → ℕ → ℕ
    taken m = lost w.grid p m (part_by w costs more priced announced p t0 shift run_by are m)

    -- what the call sign takes is part of what the date costs
    taken_of_date : (m k : ℕ) → taken m k ≤ date k
    taken_of_date m k =
        omega (
          arith,
          lost_here w costs more priced announced p t0 shift run_by are m k,
          lost_in_slot w.grid p m (part_by w costs more priced announced p t0 shift run_by are ((p + k) / 60)) k,
        )

    -- and it takes nothing of the other seconds, nor of the other minutes
    none_taken : (m k : ℕ) → is_given_up st ((p + k) % 60) ≡ false → taken m k ≡ 0
    none_taken m k keeps =
        let s : ℕ = (p + k) % 60 in
        let part = part_by w costs more priced announced p t0 shift run_by are m in
        ap (λ (g : Bool). if (p + k) / 60 == m then cost_in w.grid k (if g then get_or part s 0 else 0) else 0) keeps ∙ by_test ((p + k) / 60 == m)
      where
        by_test : (here : Bool) → (if here then cost_in w.grid k 0 else 0) ≡ 0
        by_test true = free_at k 0 refl
        by_test false = refl

    none_apart : (m k : ℕ) → ((p + k) / 60 == m) ≡ false → taken m k ≡ 0
    none_apart m k apart =
        ap (λ (t : Bool). if t then cost_in w.grid k (given_up_set st (part_by w costs more priced announced p t0 shift run_by are m) ((p + k) % 60)) else 0) apart

    -- the date of the slot is one of both
    abbrev carried : ℕ → ℕ
    carried k = get_or (part_by w costs more priced announced p t0 shift run_by are ((p + k) / 60)) ((p + k) % 60) 0

    one_of : (k : ℕ) → (carried k ≡ get_or before ((p + k) % 60) 0) ⊎ (carried k ≡ get_or after ((p + k) % 60) 0)
    one_of k = elim (one ((p + k) / 60)) [
      | inl is ↦ inl (ap (λ r. get_or (part_where announced (run_at w.parts.runs r)) ((p + k) % 60) 0) is)
      | inr is ↦ inr (ap (λ r. get_or (part_where announced (run_at w.parts.runs r)) ((p + k) % 60) 0) is)
    ]

    -- its set, where the time of day tells nothing
    set_of_date : (k : ℕ) → k < n → is_time_second st ((p + k) % 60) ≡ false → (calls st (((t0 + shift) % 1440 + (p + k) / 60) % 1440) && is_given_up st ((p + k) % 60)) ≡ false
        → IsSetOf st (carried k) × (allowed w.parts.station announced (t0 + (p + k) / 60, (p + k) % 60) ≡ carried k)
    set_of_date k within untimed keeps =
        let s : ℕ = (p + k) % 60 in
        let j : ℕ = (p + k) / 60 in
        let lt : s < 60 = omega arith in
        let few : j ≤ later_minutes n p = omega arith in
        let v : ℕ = ((t0 + shift) % 1440 + j) % 1440 in
        let day : v < 1440 = omega arith in
        let short = are.short (t0 + j) (omega arith) (omega (arith, few)) in
        let time : local_time (run_at w.parts.runs (run_by ((p + k) / 60))) (t0 + (p + k) / 60) ≡ ((t0 + shift) % 1440 + (p + k) / 60) % 1440 =
        ap (λ x. (t0 + (p + k) / 60 + x) % 1440) (are.shifts j few) ∙ omega arith in
        sent_by (run_by j) (t0 + j) s (are.each j few) short lt (ap (λ x. get_or (times_at w.parts x) s 0) time ∙ none_of_date v s day lt keeps untimed)

    -- what holds the date that the slot carries costs no more than that
    both_less : (k : ℕ) → k < n → is_given_up st ((p + k) % 60) ≡ false → is_time_second st ((p + k) % 60) ≡ false → both_in k ≤ date k
    both_less k within keeps untimed =
        let s : ℕ = (p + k) % 60 in
        let j : ℕ = (p + k) / 60 in
        let lt : s < 60 = omega arith in
        let set = set_of_date k within untimed (and_right _ _ keeps) in
        let small = small_by (t0 + (p + k) / 60) s (carried k) keeps set.0 set.1 in
        wider_costs_no_more st (cost_at w.grid.rows k) (carried k) (get_or (sets j) s 0) set.0 (omega (arith, (held j).small s lt))
        (λ m has. (held j).held s lt keeps m (ap (λ x. has_bit x m) (index_at (carried k) small) ∙ has))

    -- so it is in a second that is given up, of a minute in which no call sign is sent
    told_less : (k : ℕ) → k < n → is_given_up st ((p + k) % 60) ≡ true → ((p + k) / 60 == minutes_to_call ((t0 + shift) % 1440)) ≡ false
        → cost_in w.grid k (get_or told ((p + k) % 60) 0) ≤ date k
    told_less k within gives apart =
        let s : ℕ = (p + k) % 60 in
        let lt : s < 60 = omega arith in
        elim (cases_Bool (is_time_second st s)) [
          | inl timed ↦ omega (arith, free_at k (get_or told s 0) (nothing_told s lt timed))
          | inr untimed ↦ (
              let set = set_of_date k within untimed (no_call ((t0 + shift) % 1440) k within gives apart) in
              omega (
                arith,
                ap (cost_in w.grid k) (either_at before after s lt),
                either_less st (cost_at w.grid.rows k) (get_or before s 0) (get_or after s 0) (carried k) set.0 (one_of k),
              ))
        ]

    in_slot : (k : ℕ) → k < n
        → both_in k + told_in (minutes_to_call ((t0 + shift) % 1440)) k + taken (minutes_to_call ((t0 + shift) % 1440)) k ≤ date k
    in_slot k within =
        let s : ℕ = (p + k) % 60 in
        let j : ℕ = (p + k) / 60 in
        let m : ℕ = minutes_to_call ((t0 + shift) % 1440) in
        let lt : s < 60 = omega arith in
        elim (cases_Bool (is_given_up st s)) [
          | inl gives ↦ (
              let kept_none = free_at k (get_or (sets j) s 0) ((held j).given s lt gives) in
              elim (cases_Bool ((p + k) / 60 == m)) [
                | inl here ↦ omega (arith, taken_of_date m k, kept_none, none_here m k here)
                | inr apart ↦ omega (arith, kept_none, none_apart m k apart, told_there m k gives apart, told_less k within gives apart)
              ])
          | inr keeps ↦ elim (cases_Bool (is_time_second st s)) [
            | inl timed ↦ omega (arith, taken_of_date m k, none_kept m k keeps, free_at k (get_or (sets j) s 0) ((held j).timed s lt keeps timed))
            | inr untimed ↦ omega (arith, none_taken m k keeps, none_kept m k keeps, both_less k within keeps untimed)
          ]
        ]

    -- and no less is left of the dates where the call sign takes walk minute m
    less_than_dates : (m : ℕ) → m ≡ minutes_to_call ((t0 + shift) % 1440)
        → sum_below n both_in + given_cost w.grid p m told
        + minute_cost st (cost_at w.grid.rows) n p m (given_up st (part_by w costs more priced announced p t0 shift run_by are m))
        ≤ sum_below n date
    less_than_dates m is =
        omega (
          arith,
          given_by_slot w.grid p m told,
          lost_sum w.grid p m (part_by w costs more priced announced p t0 shift run_by are m),
          sum_of_two n both_in (told_in m),
          sum_of_two n (λ k. both_in k + told_in m k) (taken m),
          sum_le n (λ k. both_in k + told_in m k + taken m k) date (λ k within. subst (λ x. both_in k + told_in x k + taken x k ≤ date k) (sym is) (in_slot k within)),
        )

    -- with what DUT1 adds
    floor_with : (added : ℕ) → ((last_minute w p t0 / 1440 == t0 / 1440) ≡ true → IsAdded w.grid p added)
        → ((last_minute w p t0 / 1440 == t0 / 1440) ≡ false → added ≡ 0)
        → (least_with (sum_below n both_in) ((t0 + shift) % 1440) + added ≤ cost_of w announced p t0) × (cost_of w announced p t0 ≤ most_cost w.grid)
    floor_with added once twice =
        let u : ℕ = (t0 + shift) % 1440 in
        let m : ℕ = minutes_to_call u in
        let all = total_by_runs w costs more priced announced p t0 shift run_by are u m (walk_cost st (cost_at w.grid.rows) n p w.parts.times u) (sum_below n date)
        (minute_cost st (cost_at w.grid.rows) n p m (given_up st (part_by w costs more priced announced p t0 shift run_by are m))) added refl refl refl refl refl once twice in
        (omega (arith, all.0.cost, all.1, less_than_dates m refl), omega (arith, all.0.cost, all.0.bound))

    pub floor_by : (added : ℕ) → MayAdd w p t0 added
        → (least_with (sum_below n both_in) ((t0 + shift) % 1440) + added ≤ cost_of w announced p t0) × (cost_of w announced p t0 ≤ most_cost w.grid)
    floor_by = with_dut1 w costs more priced p t0 (least_with (sum_below n both_in) ((t0 + shift) % 1440)) (cost_of w announced p t0) (most_cost w.grid) second floor_with

  -- where the same sets hold both dates
  pub floor : (dates : List ℕ) → HoldBoth st before after dates → (t0 shift : ℕ) (run_by : ℕ → ℕ) → AreRunsOf w announced p t0 shift run_by
      → ((m : ℕ) → (run_by m ≡ i) ⊎ (run_by m ≡ next)) → (added : ℕ) → MayAdd w p t0 added
      → (least_with (part_cost w.grid p dates) ((t0 + shift) % 1440) + added ≤ cost_of w announced p t0) × (cost_of w announced p t0 ≤ most_cost w.grid)
  floor dates both t0 shift run_by are one added may =
      let found = floor_by (λ m. dates) t0 shift run_by are one (λ m. elim (one m) [
        | inl is ↦ subst (λ r. HoldDate st (part_where announced (run_at w.parts.runs r)) dates) (sym is) both.0
        | inr is ↦ subst (λ r. HoldDate st (part_where announced (run_at w.parts.runs r)) dates) (sym is) both.1
      ]) added may in
      (omega (arith, part_by_second w.grid p dates, found.0), found.1)

-- A table of what is kept of the dates.
pub date_costs : (w : PricedParts) (all : List (List ℕ)) (places : List ℕ) (table : LayerSums) → length places ≡ length w.parts.runs
    → ((announced : Bool) → ArePairsOf w.parts w.grid.station announced all places (length w.parts.runs)) → AreLayerCosts table w.grid all all
    → AreDateCosts w.parts w.grid table places
date_costs w all places table count pairs are = record {
  count = count;
  within = λ announced i lt. omega (arith, are.count, (pairs announced).within i lt);
  each = λ announced i p lt second.
      are.each (pair_of places announced i) p ((pairs announced).within i lt) second ∙ ap (part_cost w.grid p) ((pairs announced).each i lt);
  both = λ announced i j p lt also second.
      are.both (pair_of places announced i) (pair_of places announced j) p ((pairs announced).within i lt) ((pairs announced).within j also) second
      ∙ ap (λ part. part_cost w.grid p (together part (part_at all (pair_of places announced j)))) ((pairs announced).each i lt)
      ∙ ap (λ part. part_cost w.grid p (together (kept_of w.parts w.grid.station announced i) part)) ((pairs announced).each j also);
}
