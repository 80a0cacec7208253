-- Walks that begin in some minutes of a run and end in it or in the next, which encodes the local time alike.
use Rattle.std.proofs.Common.{◌≡◌, ℕ, ◌+◌, ◌-◌, ◌%◌, ◌<◌, ◌≤◌, ◌⊎◌, inl, inr, Bool, true, false, nat_lt, if◌then◌else◌, List, length, refl, sym, ap, ◌∙◌, subst, arith}
use Rattle.std.proofs.lemmas.Bool.{cases_lt, le-ltb, lt-ltb}
use Rattle.minute_parts.specs.Parts.{IsInRun}
use Rattle.minute_parts.specs.Runs.{end_of_run, first_of, run_at}
use Rattle.minute_parts.specs.Unions.{AreRegular}
use Rattle.minute_parts.specs.Walks.{later_minutes}
use Rattle.slot_columns.specs.Parts.{most_cost}
use Rattle.walk_costs.specs.Apart.{IsRunAtEnd}
use Rattle.walk_costs.specs.Dates.{part_cost}
use Rattle.walk_costs.specs.Walks.{ArePriced, MayAdd, PricedParts, cost_of}
use Rattle.walk_costs.proofs.NeighbourLaws.{both_dates, both_held, floor, least_with}
use Rattle.walk_costs.proofs.WalkLaws.{AreRunsOf}

module _ (w : PricedParts) (announced : Bool) (p lo hi i next : ℕ) (second : p < 60) (begins : IsInRun w.parts lo i)
    (regular : AreRegular announced lo (hi + later_minutes (length w.grid.rows) p) w.parts.end)
    (at_end : IsRunAtEnd w.parts i (hi - 1 + later_minutes (length w.grid.rows) p) next) where
  abbrev later : ℕ
  later = later_minutes (length w.grid.rows) p

  abbrev end : ℕ
  end = end_of_run w.parts.runs w.parts.end i

  -- the run in which walk minute m lies
  abbrev pub run_in : ℕ → ℕ → ℕ
  run_in t0 m = if nat_lt (t0 + m) (end_of_run w.parts.runs w.parts.end i) then i else next

  next_begins : next ≡ i + 1 → end ≡ first_of w.parts.runs next
  next_begins is =
      ap (λ (b : Bool). if b then first_of w.parts.runs (i + 1) else w.parts.end) (lt-ltb (i + 1) (length w.parts.runs) (omega (arith, is, at_end.is_run)))
      ∙ ap (first_of w.parts.runs) (sym is)

  -- a minute behind the run lies in the next
  behind : (t : ℕ) → end ≤ t → t ≤ hi - 1 + later → IsInRun w.parts t next
  behind t ge le = record {
    is_run = at_end.is_run;
    begun = begun at_end.near;
    not_over = omega (arith, le, at_end.within);
  }
    where
      begun : (next ≡ i) ⊎ (next ≡ i + 1) → first_of w.parts.runs next ≤ t
      begun (inl same) = absurd (omega (arith, ge, le, at_end.within, ap (end_of_run w.parts.runs w.parts.end) same))
      begun (inr is) = omega (arith, ge, next_begins is)

  in_run : (t0 m : ℕ) → lo ≤ t0 → t0 < hi → m ≤ later → IsInRun w.parts (t0 + m) (run_in t0 m)
  in_run t0 m ge lt le = elim (cases_lt (t0 + m) end) [
    | inl early ↦ subst (IsInRun w.parts (t0 + m)) (sym (ap (λ (b : Bool). if b then i else next) (lt-ltb (t0 + m) end early))) (record {
      is_run = begins.is_run;
      begun = omega (arith, begins.begun, ge);
      not_over = early;
    })
    | inr late ↦ subst (IsInRun w.parts (t0 + m)) (sym (ap (λ (b : Bool). if b then i else next) (le-ltb (t0 + m) end late)))
        (behind (t0 + m) late (omega (arith, lt, le)))
  ]

  alike : (b : Bool) → (run_at w.parts.runs (if b then i else next)).shift ≡ (run_at w.parts.runs i).shift
  alike true = refl
  alike false = at_end.alike

  one_of : (b : Bool) → ((if b then i else next) ≡ i) ⊎ ((if b then i else next) ≡ next)
  one_of true = inl refl
  one_of false = inr refl

  pub runs_from : (t0 : ℕ) → lo ≤ t0 → t0 < hi → AreRunsOf w announced p t0 (run_at w.parts.runs i).shift (run_in t0)
  runs_from t0 ge lt = record {
    second = second;
    short = λ t from to. regular.short t (omega (arith, ge, from)) (omega (arith, lt, to));
    each = λ m le. in_run t0 m ge lt le;
    shifts = λ m le. alike (nat_lt (t0 + m) end);
  }

  -- such a walk costs no less than its time of day and sets that hold the dates of both runs, with what DUT1 may add
  module _ (costs : List (List ℕ)) (more : List ℕ) (priced : ArePriced w.parts w.grid costs more) where
    pub no_less : (t0 added : ℕ) → lo ≤ t0 → t0 < hi → MayAdd w p t0 added
        → (least_with w costs more priced announced p i next second begins.is_run at_end.is_run
        (part_cost w.grid p (both_dates w costs more priced announced p i next second begins.is_run at_end.is_run)) ((t0 + (run_at w.parts.runs i).shift) % 1440) + added
        ≤ cost_of w announced p t0)
        × (cost_of w announced p t0 ≤ most_cost w.grid)
    no_less t0 added ge lt may =
        let is_run = begins.is_run in
        let is_next = at_end.is_run in
        floor w costs more priced announced p i next second is_run is_next (both_dates w costs more priced announced p i next second is_run is_next)
        (both_held w costs more priced announced p i next second is_run is_next) t0 (run_at w.parts.runs i).shift (run_in t0) (runs_from t0 ge lt)
        (λ m. one_of (nat_lt (t0 + m) end)) added may
