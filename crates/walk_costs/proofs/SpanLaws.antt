-- Sets that hold the dates of many runs.
use Rattle.std.proofs.Common.{◌≡◌, ◌⊎◌, ℕ, ◌+◌, ◌<◌, ◌≤◌, inl, inr, Bool, true, false, ◌==◌, bit_or, if◌then◌else◌, List, length, map, get_or, refl, sym, ap, ◌∙◌, subst, arith}
use Rattle.std.proofs.lemmas.Bool.{cases_Bool, cases_lt, eqb-true, false≢true}
use Rattle.std.proofs.lemmas.List.FromFn.{get_or-map-range_with_len}
use Rattle.std.specs.List.{range_with_len}
use Rattle.signal_base.specs.declared.station.Station.{Station}
use Rattle.signal_base.specs.Mask.{has_bit}
use Rattle.minute_parts.specs.Overlay.{is_given_up, is_time_second}
use Rattle.minute_parts.specs.Parts.{IsPartTable, PartTable, part_where}
use Rattle.minute_parts.specs.Runs.{run_at}
use Rattle.minute_parts.proofs.UnionLaws.{has_or, none_has}
use Rattle.slot_columns.specs.Parts.{IsOfEither}
use Rattle.slot_columns.specs.Rows.{index_of}
use Rattle.slot_columns.proofs.SetLaws.{index_bound, or_index}
use Rattle.walk_costs.specs.declared.span.DateSpan.{DateSpan}
use Rattle.walk_costs.specs.Dates.{kept, kept_set}
use Rattle.walk_costs.specs.Seen.{first_at, first_set, first_told, other_at, other_set, told_else}
use Rattle.walk_costs.specs.Spans.{HoldsDates, IsHeldBy, TellDates}
use Rattle.walk_costs.proofs.NeighbourLaws.{HoldDate}
use Rattle.walk_costs.proofs.SumLaws.{at_second}

first_told_at : (a b : List ℕ) (s : ℕ) → s < 60 → get_or (first_told a b) s 0 ≡ first_set (get_or a s 0) (index_of (get_or b s 0))
unfolding first_told
first_told_at a b s lt = get_or-map-range_with_len (first_at a b) 0 60 s s 0 lt (omega arith)

told_else_at : (a b c : List ℕ) (s : ℕ) → s < 60 → get_or (told_else a b c) s 0 ≡ other_set (get_or a s 0) (get_or b s 0) (index_of (get_or c s 0))
unfolding told_else
told_else_at a b c s lt = get_or-map-range_with_len (other_at a b c) 0 60 s s 0 lt (omega arith)

-- One date more: what was told first or else stays small, and none where neither tells any.
first_small : (one told : ℕ) → one < 32 → told < 32 → first_set one told < 32
first_small one told a b = by_test (one == 0)
  where
    by_test : (t : Bool) → (if t then told else one) < 32
    by_test true = b
    by_test false = a

first_none : (one told : ℕ) → one ≡ 0 → told ≡ 0 → first_set one told ≡ 0
first_none one told a b = by_test (one == 0)
  where
    by_test : (t : Bool) → (if t then told else one) ≡ 0
    by_test true = b
    by_test false = a

other_small : (one other told : ℕ) → one < 32 → other < 32 → told < 32 → other_set one other told < 32
other_small one other told a b c = by_test (bit_or one told == one) (other == one)
  where
    by_test : (t u : Bool) → (if t then first_set other one else (if u then told else bit_or other told)) < 32
    by_test true u = first_small other one b a
    by_test false true = c
    by_test false false = or_index other told b c

other_none : (one other told : ℕ) → one ≡ 0 → other ≡ 0 → told ≡ 0 → other_set one other told ≡ 0
other_none one other told a b c = by_test (bit_or one told == one) (other == one)
  where
    by_test : (t u : Bool) → (if t then first_set other one else (if u then told else bit_or other told)) ≡ 0
    by_test true u = first_none other one b a
    by_test false true = c
    by_test false false = ap (λ x. bit_or x told) b ∙ ap (bit_or 0) c

-- what was told first keeps its symbols
first_keeps : (one told n : ℕ) → has_bit one n ≡ true → has_bit (first_set one told) n ≡ true
first_keeps one told n has = by_test (one == 0) refl
  where
    by_test : (t : Bool) → (one == 0) ≡ t → has_bit (if t then told else one) n ≡ true
    by_test true none = absurd (none_has n (ap (λ x. has_bit x n) (sym (eqb-true one 0 none)) ∙ has))
    by_test false some = has

-- and one of them has those of the date
abbrev HasAll : ℕ → ℕ → Type 0
HasAll told set = (n : ℕ) → has_bit told n ≡ true → has_bit set n ≡ true

either_has : (one other told : ℕ) → (HasAll told one) ⊎ (HasAll told (other_set one other told))
either_has one other told = by_test (bit_or one told == one) (other == one) refl
  where
    by_test : (t u : Bool) → (bit_or one told == one) ≡ t
        → (HasAll told one) ⊎ (HasAll told (if t then first_set other one else (if u then told else bit_or other told)))
    by_test true u held = inl (λ n has. ap (λ x. has_bit x n) (sym (eqb-true (bit_or one told) one held)) ∙ has_or one told n (inr has))
    by_test false true new = inr (λ n has. has)
    by_test false false new = inr (λ n has. has_or other told n (inr has))

-- as one of them has those that were told else before
still_has : (one other told : ℕ) → (HasAll other one) ⊎ (HasAll other (other_set one other told))
still_has one other told = by_test (bit_or one told == one) (other == one) refl
  where
    by_test : (t u : Bool) → (other == one) ≡ u
        → (HasAll other one) ⊎ (HasAll other (if t then first_set other one else (if u then told else bit_or other told)))
    by_test true u is = inr (λ n has. first_keeps other one n has)
    by_test false true same = inl (λ n has. ap (λ x. has_bit x n) (sym (eqb-true other one same)) ∙ has)
    by_test false false differs = inr (λ n has. has_or other told n (inl has))

none_told : (station : Station) (sets : List ℕ) → ((s : ℕ) → get_or sets s 0 ≡ 0) → TellDates station sets
none_told station sets tells = record {
  small = λ s lt. omega (arith, tells s);
  given = λ s lt gives. tells s;
  timed = λ s lt keeps timed. tells s;
}

-- they hold none before there is a run
pub holds_none : (parts : PartTable) (station : Station) (span : DateSpan) → span.to ≤ length parts.runs → span.from ≡ span.to
    → ((s : ℕ) → get_or span.one s 0 ≡ 0) → ((s : ℕ) → get_or span.other s 0 ≡ 0) → HoldsDates parts station span
holds_none parts station span within none one other = record {
  within = within;
  one = none_told station span.one one;
  other = none_told station span.other other;
  either = λ i s ge lt of_minute keeps. absurd (omega (arith, ge, lt, none));
}

-- and hold one run more
module _ (parts : PartTable) (station : Station) (table : IsPartTable parts) (own : station ≡ parts.station) (old : DateSpan) (holds : HoldsDates parts station old)
    (run : ℕ) (here : old.to ≡ run) (is_run : run < length parts.runs) where
  abbrev told : List ℕ
  told = part_where false (run_at parts.runs run)

  -- what the date tells in a second
  abbrev set : ℕ → ℕ
  set s = index_of (kept_set station told s)

  abbrev pub with_first : List ℕ
  with_first = first_told old.one (kept station told)

  abbrev pub with_else : List ℕ
  with_else = told_else with_first old.other (kept station told)

  kept_there : (s : ℕ) → s < 60 → index_of (get_or (kept station told) s 0) ≡ set s
  unfolding kept
  kept_there s lt = ap index_of (at_second (kept_set station told) (kept station told) s refl lt)

  one_at : (s : ℕ) → s < 60 → get_or with_first s 0 ≡ first_set (get_or old.one s 0) (set s)
  one_at s lt = first_told_at old.one (kept station told) s lt ∙ ap (first_set (get_or old.one s 0)) (kept_there s lt)

  other_there : (s : ℕ) → s < 60 → get_or with_else s 0 ≡ other_set (get_or with_first s 0) (get_or old.other s 0) (set s)
  other_there s lt =
      told_else_at with_first old.other (kept station told) s lt ∙ ap (other_set (get_or with_first s 0) (get_or old.other s 0)) (kept_there s lt)

  kept_told : (s : ℕ) → is_given_up station s ≡ false → set s ≡ index_of (get_or told s 0)
  kept_told s keeps = ap (λ (g : Bool). index_of (if g then 0 else get_or told s 0)) keeps

  lost_told : (s : ℕ) → is_given_up station s ≡ true → set s ≡ 0
  lost_told s gives = ap (λ (g : Bool). index_of (if g then 0 else get_or told s 0)) gives

  timed_told : (s : ℕ) → s < 60 → is_given_up station s ≡ false → is_time_second station s ≡ true → set s ≡ 0
  timed_told s lt keeps timed =
      kept_told s keeps ∙ ap index_of (table.date_alone false run s is_run lt (ap (λ (x : Station). is_time_second x s) (sym own) ∙ timed))

  -- sets that tell nothing where the old ones and the date do
  more_told : (a b : List ℕ) → TellDates station a → ((s : ℕ) → s < 60 → get_or b s 0 < 32)
      → ((s : ℕ) → s < 60 → get_or a s 0 ≡ 0 → set s ≡ 0 → get_or b s 0 ≡ 0) → TellDates station b
  more_told a b tell small none = record {
    small = λ s lt. omega (arith, small s lt);
    given = λ s lt gives. none s lt (tell.given s lt gives) (lost_told s gives);
    timed = λ s lt keeps timed. none s lt (tell.timed s lt keeps timed) (timed_told s lt keeps timed);
  }

  one_tells : TellDates station with_first
  one_tells =
      more_told old.one with_first holds.one
      (λ s lt. omega (arith, one_at s lt, first_small (get_or old.one s 0) (set s) (omega (arith, holds.one.small s lt)) (index_bound (kept_set station told s))))
      (λ s lt none told. one_at s lt ∙ first_none (get_or old.one s 0) (set s) none told)

  other_tells : TellDates station with_else
  other_tells = record {
    small = λ s lt.
        omega (
          arith,
          other_there s lt,
          other_small (get_or with_first s 0) (get_or old.other s 0) (set s) (omega (arith, one_tells.small s lt))
              (omega (arith, holds.other.small s lt)) (index_bound (kept_set station told s)),
        );
    given = λ s lt gives.
        other_there s lt
        ∙ other_none (get_or with_first s 0) (get_or old.other s 0) (set s) (one_tells.given s lt gives) (holds.other.given s lt gives)
        (lost_told s gives);
    timed = λ s lt keeps timed.
        other_there s lt
        ∙ other_none (get_or with_first s 0) (get_or old.other s 0) (set s) (one_tells.timed s lt keeps timed) (holds.other.timed s lt keeps timed)
        (timed_told s lt keeps timed);
  }

  -- what a run tells
  abbrev of_run : ℕ → ℕ → ℕ
  of_run i s = get_or (part_where false (run_at parts.runs i)) s 0

  -- what was held is held still
  held_first : (i s : ℕ) → s < 60 → IsHeldBy (of_run i s) (get_or old.one s 0) → IsHeldBy (of_run i s) (get_or with_first s 0)
  held_first i s lt held = λ n has. ap (λ x. has_bit x n) (one_at s lt) ∙ first_keeps (get_or old.one s 0) (set s) n (held n has)

  held_else : (i s : ℕ) → s < 60 → IsHeldBy (of_run i s) (get_or old.other s 0)
      → IsHeldBy (of_run i s) (get_or with_first s 0) ⊎ IsHeldBy (of_run i s) (get_or with_else s 0)
  held_else i s lt held = elim (still_has (get_or with_first s 0) (get_or old.other s 0) (set s)) [
    | inl has_all ↦ inl (λ n has. has_all n (held n has))
    | inr has_all ↦ inr (λ n has. ap (λ x. has_bit x n) (other_there s lt) ∙ has_all n (held n has))
  ]

  -- and so is the date
  date_held : (s : ℕ) → s < 60 → is_given_up station s ≡ false
      → IsHeldBy (of_run run s) (get_or with_first s 0) ⊎ IsHeldBy (of_run run s) (get_or with_else s 0)
  date_held s lt keeps = elim (either_has (get_or with_first s 0) (get_or old.other s 0) (set s)) [
    | inl held ↦ inl (λ n has. held n (ap (λ x. has_bit x n) (kept_told s keeps) ∙ has))
    | inr held ↦ inr (λ n has. ap (λ x. has_bit x n) (other_there s lt) ∙ held n (ap (λ x. has_bit x n) (kept_told s keeps) ∙ has))
  ]

  pub one_more : (new : DateSpan) → new.from ≡ old.from → new.to ≡ run + 1 → new.one ≡ with_first → new.other ≡ with_else
      → HoldsDates parts station new
  one_more new from to one other = record {
    within = omega (arith, to, is_run);
    one = subst (TellDates station) (sym one) one_tells;
    other = subst (TellDates station) (sym other) other_tells;
    either = λ i s ge lt of_minute keeps.
        subst (λ (x : List ℕ). IsHeldBy (of_run i s) (get_or x s 0) ⊎ IsHeldBy (of_run i s) (get_or new.other s 0)) (sym one)
        (subst (λ (x : List ℕ). IsHeldBy (of_run i s) (get_or with_first s 0) ⊎ IsHeldBy (of_run i s) (get_or x s 0)) (sym other)
        (elim (cases_lt i run) [
          | inl before ↦ elim (holds.either i s (omega (arith, ge, from)) (omega (arith, before, here)) of_minute keeps) [
            | inl held ↦ inl (held_first i s of_minute held)
            | inr held ↦ held_else i s of_minute held
          ]
          | inr after ↦ (
              let is : run ≡ i = omega (arith, after, lt, to) in
              subst (λ r. IsHeldBy (of_run r s) (get_or with_first s 0) ⊎ IsHeldBy (of_run r s) (get_or with_else s 0)) is (date_held s of_minute keeps))
        ]));
  }

-- one of two numbers, by which of two facts holds
abbrev pick : {A : Type 0} {B : Type 0} → A ⊎ B → ℕ → ℕ → ℕ
pick (inl held) a b = a
pick (inr held) a b = b

-- it has what both have
picked : {A : Type 0} {B : Type 0} (Q : ℕ → Type 0) (one : A ⊎ B) (a b : ℕ) → Q a → Q b → Q (pick one a b)
picked Q (inl held) a b of_a of_b = of_a
picked Q (inr held) a b of_a of_b = of_b

-- What holds the date of one run: in each second the one part or the other.
module _ (parts : PartTable) (station : Station) (span : DateSpan) (i : ℕ) (holds : HoldsDates parts station span) (from : span.from ≤ i) (to : i < span.to) where
  abbrev date : List ℕ
  date = part_where false (run_at parts.runs i)

  abbrev Holds : List ℕ → ℕ → Type 0
  Holds sets s = s < 60 → is_given_up station s ≡ false → IsHeldBy (get_or date s 0) (get_or sets s 0)

  which : (s : ℕ) → Holds span.one s ⊎ Holds span.other s
  which s = elim (cases_lt s 60) [
    | inl lt ↦ elim (cases_Bool (is_given_up station s)) [
      | inl gives ↦ inl (λ below keeps. absurd (false≢true (sym keeps ∙ gives)))
      | inr keeps ↦ elim (holds.either i s from to lt keeps) [
        | inl held ↦ inl (λ below keeps_too. held)
        | inr held ↦ inr (λ below keeps_too. held)
      ]
    ]
    | inr late ↦ inl (λ below. absurd (omega (arith, below, late)))
  ]

  abbrev chosen_set : ℕ → ℕ
  chosen_set s = pick (which s) (get_or span.one s 0) (get_or span.other s 0)

  pub chosen : List ℕ
  chosen = map chosen_set (range_with_len 0 60)

  chosen_at : (s : ℕ) → s < 60 → get_or chosen s 0 ≡ chosen_set s
  unfolding chosen
  chosen_at s lt = at_second chosen_set chosen s refl lt

  chosen_holds : (s : ℕ) (one : Holds span.one s ⊎ Holds span.other s) → s < 60 → is_given_up station s ≡ false
      → IsHeldBy (get_or date s 0) (pick one (get_or span.one s 0) (get_or span.other s 0))
  chosen_holds s (inl held) lt keeps = held lt keeps
  chosen_holds s (inr held) lt keeps = held lt keeps

  held_by_chosen : (s : ℕ) → s < 60 → is_given_up station s ≡ false → IsHeldBy (get_or date s 0) (get_or chosen s 0)
  held_by_chosen s lt keeps = subst (IsHeldBy (get_or date s 0)) (sym (chosen_at s lt)) (chosen_holds s (which s) lt keeps)

  pub of_either : IsOfEither span.one span.other chosen
  of_either = λ s lt.
      subst (λ x. (x ≡ get_or span.one s 0) ⊎ (x ≡ get_or span.other s 0)) (sym (chosen_at s lt))
      (picked (λ x. (x ≡ get_or span.one s 0) ⊎ (x ≡ get_or span.other s 0)) (which s) (get_or span.one s 0) (get_or span.other s 0) (inl refl) (inr refl))

  pub hold_chosen : HoldDate station date chosen
  hold_chosen = record {
    small = λ s lt.
        subst (λ x. x < 32) (sym (chosen_at s lt))
        (picked (λ x. x < 32) (which s) (get_or span.one s 0) (get_or span.other s 0) (omega (arith, holds.one.small s lt)) (omega (arith, holds.other.small s lt)));
    given = λ s lt gives.
        chosen_at s lt ∙ picked (λ x. x ≡ 0) (which s) (get_or span.one s 0) (get_or span.other s 0) (holds.one.given s lt gives) (holds.other.given s lt gives);
    timed = λ s lt keeps timed.
        chosen_at s lt
        ∙ picked (λ x. x ≡ 0) (which s) (get_or span.one s 0) (get_or span.other s 0) (holds.one.timed s lt keeps timed) (holds.other.timed s lt keeps timed);
    held = held_by_chosen;
  }
