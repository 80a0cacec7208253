-- Walks that begin in one of some runs and go no further than the next.
use Rattle.std.proofs.Common.{◌≡◌, ℕ, zero, suc, ◌+◌, ◌-◌, ◌<◌, ◌≤◌, inl, inr, Bool, false, if◌then◌else◌, length, ap, arith}
use Rattle.std.proofs.lemmas.Bool.{cases_lt, lt-ltb}
use Rattle.minute_parts.specs.Parts.{IsInRun}
use Rattle.minute_parts.specs.Runs.{end_of_run, first_of}
use Rattle.minute_parts.specs.Unions.{AreRegular}
use Rattle.minute_parts.specs.Walks.{later_minutes}
use Rattle.walk_costs.specs.Near.{IsFollowed, StaysNear}
use Rattle.walk_costs.specs.Walks.{PricedParts, last_minute}

module _ (w : PricedParts) (second lo hi t end run last : ℕ) (of_minute : second < 60) (few : later_minutes (length w.grid.rows) second ≤ 20)
    (regular : AreRegular false lo (hi + later_minutes (length w.grid.rows) second) w.parts.end) (begun : lo ≤ t) (within : end ≤ hi)
    (here : IsInRun w.parts t run) (some : run < last) (followed : (r : ℕ) → run ≤ r → r < last → IsFollowed w.parts r)
    (in_runs : end ≤ end_of_run w.parts.runs w.parts.end (last - 1)) where
  abbrev end_at : ℕ → ℕ
  end_at r = end_of_run w.parts.runs w.parts.end r

  next_begins : (r : ℕ) → run ≤ r → r < last → end_at r ≡ first_of w.parts.runs (r + 1)
  next_begins r ge lt =
      ap (λ (b : Bool). if b then first_of w.parts.runs (r + 1) else w.parts.end) (lt-ltb (r + 1) (length w.parts.runs) (followed r ge lt).next)

  -- the last of them ends after the first
  ends_by : (k r : ℕ) → r + k + 1 ≡ last → run ≤ r → end_at r ≤ end_at (last - 1)
  ends_by zero r is ge = let same : r ≡ last - 1 = omega arith in omega (arith, ap end_at same)
  ends_by (suc k) r is ge = omega (arith, (followed r ge (omega arith)).long, ends_by k (r + 1) (omega arith) (omega arith))

  pub ends_later : end_of_run w.parts.runs w.parts.end run ≤ end_of_run w.parts.runs w.parts.end (last - 1)
  ends_later = ends_by (last - run - 1) run (omega (arith, some)) (omega arith)

  -- a minute of them lies in one of them
  abbrev Found : ℕ → Type 0
  Found t0 = (r : ℕ) × (run ≤ r) × (r < last) × IsInRun w.parts t0 r

  find : (k r t0 : ℕ) → r + k + 1 ≡ last → run ≤ r → first_of w.parts.runs r ≤ t0 → t0 < end_at (last - 1) → Found t0
  find zero r t0 is ge from lt =
      let same : r ≡ last - 1 = omega arith in (
        r,
        ge,
        omega (arith, is),
        record {
          is_run = omega (arith, (followed r ge (omega arith)).next);
          begun = from;
          not_over = omega (arith, lt, ap end_at same);
        },
      )
  find (suc k) r t0 is ge from lt = elim (cases_lt t0 (end_at r)) [
    | inl inside ↦ (r, ge, omega (arith, is), record { is_run = omega (arith, (followed r ge (omega arith)).next); begun = from; not_over = inside })
    | inr over ↦ find k (r + 1) t0 (omega arith) (omega arith) (omega (arith, over, next_begins r ge (omega arith))) lt
  ]

  stays : (t0 r : ℕ) → t ≤ t0 → t0 < end → run ≤ r → r < last → IsInRun w.parts t0 r → StaysNear w second t0 r
  stays t0 r ge lt from to begins = elim (cases_lt (last_minute w second t0) (end_of_run w.parts.runs w.parts.end r)) [
    | inl inside ↦ inl
        (record {
          second = of_minute;
          begins = begins;
          ends = inside;
          short = λ m after before. regular.short m (omega (arith, begun, ge, after)) (omega (arith, before, lt, within));
        })
    | inr leaves ↦ inr
        (record {
          second = of_minute;
          begins = begins;
          ends = record {
            is_run = (followed r from to).next;
            begun = omega (arith, leaves, next_begins r from to);
            not_over = omega (arith, begins.not_over, few, (followed r from to).long);
          };
          alike = (followed r from to).alike;
          short = λ m after before. regular.short m (omega (arith, begun, ge, after)) (omega (arith, before, lt, within));
        })
  ]

  pub near_by : (t0 : ℕ) → t ≤ t0 → t0 < end → (r : ℕ) × (run ≤ r) × (r < last) × StaysNear w second t0 r
  near_by t0 ge lt =
      let found = find (last - run - 1) run t0 (omega (arith, some)) (omega arith) (omega (arith, here.begun, ge)) (omega (arith, lt, in_runs)) in
      (found.0, found.1, found.2, stays t0 found.0 ge lt found.1 found.2 found.3)
