-- Whether a walk shows the announcement, run by run.
use Rattle.std.proofs.Common.{◌≡◌, ℕ, ◌+◌, ◌-◌, ◌*◌, ◌/◌, ◌%◌, ◌<◌, ◌≤◌, inl, inr, true, false, min, length, get_or, refl, sym, ap, ◌∙◌, subst, arith}
use Rattle.std.proofs.lemmas.Bool.{cases_Bool, cases_lt}
use Rattle.signal_base.specs.declared.station.Station.{Station}
use Rattle.definitions.specs.declared.sequence.Sequence.{Sequence}
use Rattle.definitions.specs.codes.Allowed.{allowed}
use Rattle.definitions.specs.time.Calendar.{minute_length}
use Rattle.definitions.specs.sequences.Walks.{set_at, unannounced}
use Rattle.minute_parts.specs.declared.runs.Run.{Run}
use Rattle.minute_parts.specs.Overlay.{overlay}
use Rattle.minute_parts.specs.Parts.{IsInRun, IsPartTable, PartTable, local_time, times_at}
use Rattle.minute_parts.specs.Runs.{end_of_run, first_of, run_at}
use Rattle.minute_parts.proofs.SpanLaws.{next_run}
use Rattle.walk_costs.specs.Shown.{SomeSlotShows, shows_in}
use Rattle.walk_costs.specs.Walks.{IsRegularWalk, PricedParts, ShowsAnnouncement, last_minute}
use Rattle.walk_costs.proofs.ShownLaws.{alike_is_silent, of_test, slot_is_silent, slot_shows}

abbrev pub announced : ℕ → ℕ → Sequence
announced p t0 = record { first = t0; second = p; announced = true }

-- the slot carries the same without the announcement
abbrev pub IsSilent : PricedParts → ℕ → ℕ → ℕ → Type 0
IsSilent w p t0 k = set_at w.grid.station (announced p t0) k ≡ set_at w.grid.station (unannounced (announced p t0)) k

pub all_silent : (w : PricedParts) (p t0 : ℕ) → ((k : ℕ) → k < length w.grid.rows → IsSilent w p t0 k) → ¬ (ShowsAnnouncement w (announced p t0))
all_silent w p t0 silent = λ h. h.2 (silent h.0 h.1)

-- where the date tells the same, no slot shows it
pub none_of_alike : (parts : PartTable) (run : Run) (u p from to : ℕ) → run.unannounced ≡ run.announced → ¬ (SomeSlotShows parts run u p from to)
none_of_alike parts run u p from to same = λ h.
    (of_test (get_or (times_at parts ((u + (p + h.0) / 60) % 1440)) ((p + h.0) % 60) 0) _ _ h.3).1 (ap (λ xs. get_or xs ((p + h.0) % 60) 0) same)

-- no later run begins before the last minute of all
pub run_after : (p : PartTable) → IsPartTable p → (t i end : ℕ) → IsInRun p t i → end ≡ end_of_run p.runs p.end i → end < p.end → IsInRun p end (i + 1)
run_after p table t i end here is early =
    next_run p table t p.end i end here (omega arith) (omega (arith, is, early)) (λ last. omega (arith, last, early))

module _ (w : PricedParts) (station : w.parts.station ≡ w.grid.station) (table : IsPartTable w.parts) (p t0 : ℕ) (second : p < 60)
    (regular : IsRegularWalk w p t0) where
  abbrev run : ℕ → Run
  run i = run_at w.parts.runs i

  abbrev minute : ℕ → ℕ
  minute k = t0 + (p + k) / 60

  -- the slots from one of the run up to its end
  in_run : (i from to end k : ℕ) → IsInRun w.parts (minute from) i → end ≡ end_of_run w.parts.runs w.parts.end i → to ≤ 60 * (end - t0) - p
      → from ≤ k → k < to → IsInRun w.parts (minute k) i
  in_run i from to end k here is reached le lt = record {
    is_run = here.is_run;
    begun = omega (arith, here.begun, le);
    not_over = omega (arith, is, reached, lt);
  }

  pub some_shows : (i from to end : ℕ) → IsInRun w.parts (minute from) i → end ≡ end_of_run w.parts.runs w.parts.end i → to ≤ 60 * (end - t0) - p
      → to ≤ length w.grid.rows → SomeSlotShows w.parts (run i) (local_time (run i) t0) p from to → ShowsAnnouncement w (announced p t0)
  some_shows i from to end here is reached within h =
      slot_shows w station table p t0 second (λ t le lt. regular.short t le (omega (arith, lt))) i h.0 (omega (arith, h.2, within))
      (in_run i from to end h.0 here is reached h.1 h.2) h.3

  pub more_silent : (i from to end : ℕ) → IsInRun w.parts (minute from) i → end ≡ end_of_run w.parts.runs w.parts.end i → to ≤ 60 * (end - t0) - p
      → to ≤ length w.grid.rows → ((k : ℕ) → k < from → IsSilent w p t0 k) → ¬ (SomeSlotShows w.parts (run i) (local_time (run i) t0) p from to)
      → (k : ℕ) → k < to → IsSilent w p t0 k
  more_silent i from to end here is reached within before none k lt = elim (cases_lt k from) [
    | inl early ↦ before k early
    | inr le ↦ elim (cases_Bool (shows_in w.parts (run i) (local_time (run i) t0) p k)) [
      | inl shows ↦ absurd (none (k, le, lt, shows))
      | inr silent ↦ slot_is_silent w station table p t0 second (λ t from to. regular.short t from (omega (arith, to))) i k (omega (arith, lt, within))
          (in_run i from to end k here is reached le lt) silent
    ]
  ]

  -- the slots go on in the next run
  pub goes_on : (i from to end : ℕ) → IsInRun w.parts (minute from) i → end ≡ end_of_run w.parts.runs w.parts.end i → to ≡ min (60 * (end - t0) - p) (length w.grid.rows)
      → (to ≡ length w.grid.rows → ⊥) → IsInRun w.parts (minute to) (i + 1)
  goes_on i from to end here is cut other =
      let begun : t0 < end = omega (arith, is, here.not_over) in
      let exact : to ≡ 60 * (end - t0) - p = omega (arith, cut, other) in
      let less : to < length w.grid.rows = omega (arith, cut, other) in
      let at : minute to ≡ end = omega (arith, exact, begun, second) in
      let early : end < w.parts.end = omega (arith, at, less, regular.early) in
      subst (λ t. IsInRun w.parts t (i + 1)) (sym at) (run_after w.parts table (minute from) i end here is early)

-- the minute lies in a run whose date tells the same
abbrev pub IsAlikeAt : PartTable → ℕ → Type 0
IsAlikeAt parts t = (i : ℕ) × IsInRun parts t i × ((run_at parts.runs i).unannounced ≡ (run_at parts.runs i).announced)

module _ (parts : PartTable) (lo i end : ℕ) (is_run : i < length parts.runs) (is : end ≡ end_of_run parts.runs parts.end i)
    (same : (run_at parts.runs i).unannounced ≡ (run_at parts.runs i).announced) (before : (t : ℕ) → lo ≤ t → t < first_of parts.runs i → IsAlikeAt parts t) where
  -- with the minutes of one more run
  pub more_alike : (t : ℕ) → lo ≤ t → t < end → IsAlikeAt parts t
  more_alike t le lt = elim (cases_lt t (first_of parts.runs i)) [
    | inl early ↦ before t le early
    | inr begun ↦ (i, record { is_run = is_run; begun = begun; not_over = omega (arith, lt, is) }, same)
  ]

  pub alike_before_next : IsPartTable parts → end < parts.end → (t : ℕ) → lo ≤ t → t < first_of parts.runs (i + 1) → IsAlikeAt parts t
  alike_before_next table early t le lt =
      let first : IsInRun parts (first_of parts.runs i) i = record { is_run = is_run; begun = omega arith; not_over = table.rise i is_run } in
      let next = run_after parts table (first_of parts.runs i) i end first is early in
      more_alike t le (omega (arith, lt, next.begun))

-- the minutes of a walk lie in runs whose dates tell the same
pub never : (w : PricedParts) → w.parts.station ≡ w.grid.station → IsPartTable w.parts → (lo last : ℕ)
    → ((t : ℕ) → lo ≤ t → t ≤ last → IsAlikeAt w.parts t)
    → (p t0 : ℕ) → p < 60 → lo ≤ t0 → last_minute w p t0 ≤ last → IsRegularWalk w p t0 → ¬ (ShowsAnnouncement w (announced p t0))
never w station table lo last alike p t0 second le within regular = λ h.
    let k : ℕ = h.0 in
    let there = alike (t0 + (p + k) / 60) (omega (arith, le)) (omega (arith, h.1, within)) in
    h.2 (alike_is_silent w station table p t0 second (λ t from to. regular.short t from (omega (arith, to))) there.0 k h.1 there.1 there.2)

-- and carry the same sets
pub same_sets : (w : PricedParts) → w.parts.station ≡ w.grid.station → IsPartTable w.parts → (lo last : ℕ)
    → ((t : ℕ) → lo ≤ t → t ≤ last → IsAlikeAt w.parts t)
    → (t s : ℕ) → lo ≤ t → t ≤ last → minute_length true t ≡ 60 → s < 60 → allowed w.grid.station true (t, s) ≡ allowed w.grid.station false (t, s)
same_sets w station table lo last alike t s le within short lt =
    let there = alike t le within in
    let time = get_or (times_at w.parts (local_time (run_at w.parts.runs there.0) t)) s 0 in
    subst (λ (st : Station). allowed st true (t, s) ≡ allowed st false (t, s)) station
    (table.tells true there.0 t s there.1 short lt
    ∙ ap (λ part. overlay time (get_or part s 0)) (sym there.2)
    ∙ sym (table.tells false there.0 t s there.1 refl lt))
