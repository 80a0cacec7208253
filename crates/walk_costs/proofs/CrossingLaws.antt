-- What a walk costs that begins in one run and ends in the next.
use Rattle.std.proofs.Common.{◌≡◌, ℕ, ◌+◌, ◌-◌, ◌/◌, ◌%◌, ◌<◌, ◌≤◌, inl, inr, Bool, true, false, ◌==◌, nat_lt, if◌then◌else◌, List, length, get_or, refl, sym, ap, ◌∙◌, subst, arith}
use Rattle.std.proofs.lemmas.Bool.{cases_lt, le-ltb, lt-ltb}
use Rattle.definitions.specs.heard.Costs.{sum_below}
use Rattle.definitions.proofs.CostLaws.{sum_below_same}
use Rattle.symbol_cost.specs.Grid.{cost_at}
use Rattle.minute_parts.specs.Parts.{IsInRun, part_where}
use Rattle.minute_parts.specs.Runs.{end_of_run, first_of, run_at}
use Rattle.slot_columns.specs.Parts.{minute_cost, split_cost, split_set, walk_cost}
use Rattle.walk_costs.specs.Crossings.{IsAcross, run_across}
use Rattle.walk_costs.specs.Dates.{IsAdded, given_up, minutes_to_call}
use Rattle.minute_parts.specs.Walks.{later_minutes}
use Rattle.walk_costs.specs.Walks.{ArePriced, PricedParts, last_minute}
use Rattle.walk_costs.proofs.SumLaws.{cost_in}
use Rattle.walk_costs.proofs.TotalLaws.{IsTotal}
use Rattle.walk_costs.proofs.WalkLaws.{AreRunsOf, date_in, total_by_runs}

module _ (w : PricedParts) (costs : List (List ℕ)) (more : List ℕ) (priced : ArePriced w.parts w.grid costs more)
    (announced : Bool) (p t0 i end : ℕ) (is_end : end ≡ end_of_run w.parts.runs w.parts.end i) (across : IsAcross w announced p t0 i) where
  abbrev n : ℕ
  n = length w.grid.rows

  -- the next run begins where this one ends
  pub next_begins : end ≡ first_of w.parts.runs (i + 1)
  next_begins = is_end ∙ ap (λ (b : Bool). if b then first_of w.parts.runs (i + 1) else w.parts.end) (lt-ltb (i + 1) (length w.parts.runs) across.ends.is_run)

  -- so many minutes of the walk lie in the first run
  abbrev pub front : ℕ
  front = end - t0

  pub begun : t0 < end
  begun = omega (arith, is_end, across.begins.not_over)

  pub front_few : front ≤ later_minutes n p
  front_few = omega (arith, next_begins, across.ends.begun)

  in_run : (m : ℕ) → m ≤ later_minutes n p → IsInRun w.parts (t0 + m) (run_across i front m)
  in_run m le = elim (cases_lt m front) [
    | inl lt ↦ subst (IsInRun w.parts (t0 + m)) (sym (ap (λ (b : Bool). if b then i else i + 1) (lt-ltb m front lt))) (record {
      is_run = across.begins.is_run;
      begun = omega (arith, across.begins.begun);
      not_over = omega (arith, is_end, lt);
    })
    | inr ge ↦ subst (IsInRun w.parts (t0 + m)) (sym (ap (λ (b : Bool). if b then i else i + 1) (le-ltb m front ge))) (record {
      is_run = across.ends.is_run;
      begun = omega (arith, next_begins, ge, begun);
      not_over = omega (arith, across.ends.not_over, le);
    })
  ]

  alike : (b : Bool) → (run_at w.parts.runs (if b then i else i + 1)).shift ≡ (run_at w.parts.runs i).shift
  alike true = refl
  alike false = across.alike

  pub two_runs : AreRunsOf w announced p t0 (run_at w.parts.runs i).shift (run_across i front)
  two_runs = record {
    second = across.second;
    short = across.short;
    each = in_run;
    shifts = λ m le. alike (nat_lt m front);
  }

  -- the dates of both runs
  dates_are : split_cost w.grid.station (cost_at w.grid.rows) n p front (part_where announced (run_at w.parts.runs i)) (part_where announced (run_at w.parts.runs (i + 1)))
      ≡ sum_below n (date_in w costs more priced announced p t0 (run_at w.parts.runs i).shift (run_across i front) two_runs)
  dates_are =
      sum_below_same n
      (λ k. cost_in w.grid k (split_set p front (part_where announced (run_at w.parts.runs i)) (part_where announced (run_at w.parts.runs (i + 1))) k))
      (date_in w costs more priced announced p t0 (run_at w.parts.runs i).shift (run_across i front) two_runs)
      (λ k within. by_test k ((p + k) % 60) (nat_lt ((p + k) / 60) front))
    where
      by_test : (k s : ℕ) (b : Bool)
          → cost_in w.grid k (get_or (if b then part_where announced (run_at w.parts.runs i) else part_where announced (run_at w.parts.runs (i + 1))) s 0)
          ≡ cost_in w.grid k (get_or (part_where announced (run_at w.parts.runs (if b then i else i + 1))) s 0)
      by_test k s true = refl
      by_test k s false = refl

  pub total_across : (u m walk dates lost added : ℕ) → u ≡ (t0 + (run_at w.parts.runs i).shift) % 1440 → m ≡ minutes_to_call u
      → walk ≡ walk_cost w.grid.station (cost_at w.grid.rows) n p w.parts.times u
      → dates ≡ split_cost w.grid.station (cost_at w.grid.rows) n p front (part_where announced (run_at w.parts.runs i)) (part_where announced (run_at w.parts.runs (i + 1)))
      → lost ≡ minute_cost w.grid.station (cost_at w.grid.rows) n p m (given_up w.grid.station (part_where announced (run_at w.parts.runs (run_across i front m))))
      → ((last_minute w p t0 / 1440 == t0 / 1440) ≡ true → IsAdded w.grid p added)
      → ((last_minute w p t0 / 1440 == t0 / 1440) ≡ false → added ≡ 0)
      → IsTotal w announced p t0 (walk + (dates - lost)) added × (lost ≤ dates)
  total_across u m walk dates lost added time call by_time by_date by_call one two =
      total_by_runs w costs more priced announced p t0 (run_at w.parts.runs i).shift (run_across i front) two_runs u m walk dates lost added time call by_time
      (by_date ∙ dates_are) by_call one two
