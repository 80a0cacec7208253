-- Whether a walk shows that a leap second is announced.
use Rattle.std.proofs.Common.{◌≡◌, ◌≢◌, ℕ, zero, suc, ◌+◌, ◌-◌, ◌/◌, ◌%◌, ◌<◌, ◌≤◌, ◌⊎◌, inl, inr, Bool, true, false, ◌==◌, ◌&&◌, not, List, length, get_or, refl, sym, ap, ◌∙◌, subst, arith}
use Rattle.std.proofs.lemmas.Bool.{and_parts, cases_Bool, cases_eq, eq-eqb, eqb-true, eqb-false, ne_eqb, or_from}
use Rattle.std.proofs.lemmas.List.{ext_get_or}
use Rattle.signal_base.specs.declared.station.Station.{Station}
use Rattle.definitions.specs.declared.sequence.Sequence.{Sequence}
use Rattle.definitions.specs.time.Calendar.{minute_length}
use Rattle.definitions.specs.sequences.Walks.{set_at, unannounced}
use Rattle.minute_parts.specs.declared.runs.Run.{Run}
use Rattle.minute_parts.specs.Overlay.{is_given_up, is_time_second, overlay}
use Rattle.minute_parts.specs.Parts.{IsInRun, IsPartTable, PartTable, local_time, times_at}
use Rattle.minute_parts.specs.Runs.{run_at}
use Rattle.minute_parts.proofs.SpanLaws.{leaves}
use Rattle.walk_costs.specs.Shown.{DiffersElsewhere, SomeSlotShows, shows_in}
use Rattle.walk_costs.specs.Walks.{ArePriced, IsRegularIn, PricedParts, ShowsAnnouncement, last_minute}
use Rattle.walk_costs.proofs.SplitLaws.{calls, tells_by}
use Rattle.walk_costs.proofs.SlotLaws.{set_in}

-- numbers are the same below n, or differ somewhere
pub same_or_differ : (n : ℕ) (f g : ℕ → ℕ) → ((s : ℕ) → s < n → f s ≡ g s) ⊎ ((s : ℕ) × (s < n) × (f s ≢ g s))
same_or_differ zero f g = inl (λ s lt. absurd (omega arith))
same_or_differ (suc n) f g = elim (same_or_differ n f g) [
  | inr d ↦ inr (d.0, omega (arith, d.1), d.2)
  | inl same ↦ elim (cases_eq (f n) (g n)) [
    | inl e ↦ inl (λ s lt. elim (cases_eq s n) [ inl is ↦ ap f is ∙ e ∙ ap g (sym is) | inr other ↦ same s (omega arith) ])
    | inr other ↦ inr (n, omega arith, other)
  ]
]

differ_by : (time a b : ℕ) → time ≡ 0 → a ≢ b → overlay time a ≢ overlay time b
differ_by time a b none other = rw (eq-eqb time 0 none) other

same_by_time : (time a b : ℕ) → time ≢ 0 → overlay time a ≡ overlay time b
same_by_time time a b some = rw (ne_eqb time 0 some) refl

not_true : (b : Bool) → not b ≡ true → b ≡ false
not_true true e = absurd cc
not_true false e = refl

pub of_test : (time a b : ℕ) → ((time == 0) && not (a == b)) ≡ true → (time ≡ 0) × (a ≢ b)
of_test time a b e =
    let parts = and_parts (time == 0) (not (a == b)) e in
    (eqb-true time 0 parts.0, eqb-false a b (not_true (a == b) parts.1))

to_test : (time a b : ℕ) → time ≡ 0 → a ≢ b → ((time == 0) && not (a == b)) ≡ true
to_test time a b none other = rw (eq-eqb time 0 none, ne_eqb a b other) refl

no_call : (c g : Bool) → g ≡ false → (c && g) ≡ false
no_call true g e = e
no_call false g e = refl

-- the same of the parts, the run and the local time that are computed
pub shown_alike : (v w : PartTable) (r run : Run) (m u p from to : ℕ) → v ≡ w → r ≡ run → m ≡ u → SomeSlotShows v r m p from to → SomeSlotShows w run u p from to
shown_alike v w r run m u p from to parts_are run_is time_is h =
    subst (λ x. SomeSlotShows w run x p from to) time_is
    (subst (λ (x : Run). SomeSlotShows w x m p from to) run_is (subst (λ (x : PartTable). SomeSlotShows x r m p from to) parts_are h))

-- The walk of an announced sequence has 60 seconds in each minute. Slot k lies in a minute of the run i.
module _ (w : PricedParts) (station : w.parts.station ≡ w.grid.station) (table : IsPartTable w.parts) (p t0 : ℕ) (second : p < 60)
    (short : (t : ℕ) → t0 ≤ t → t ≤ last_minute w p t0 → minute_length true t ≡ 60) where
  abbrev pub told : Sequence
  told = record { first = t0; second = p; announced = true }

  abbrev run : ℕ → Run
  run i = run_at w.parts.runs i

  -- what the time of day tells of second s in minute t
  abbrev time : ℕ → ℕ → ℕ → ℕ
  time i t s = get_or (times_at w.parts (local_time (run i) t)) s 0

  told_is : (i k t s : ℕ) → k < length w.grid.rows → t ≡ t0 + (p + k) / 60 → s ≡ (p + k) % 60 → IsInRun w.parts t i
      → set_at w.grid.station told k ≡ overlay (time i t s) (get_or (run i).announced s 0)
  told_is i k t s within minute of_minute here = set_in w station table true p t0 second short i k t s within minute of_minute here

  untold_is : (i k t s : ℕ) → k < length w.grid.rows → t ≡ t0 + (p + k) / 60 → s ≡ (p + k) % 60 → IsInRun w.parts t i
      → set_at w.grid.station (unannounced told) k ≡ overlay (time i t s) (get_or (run i).unannounced s 0)
  untold_is i k t s within minute of_minute here = set_in w station table false p t0 second (λ u from to. refl) i k t s within minute of_minute here

  pub shown_at : (i k t s : ℕ) → k < length w.grid.rows → t ≡ t0 + (p + k) / 60 → s ≡ (p + k) % 60 → IsInRun w.parts t i → time i t s ≡ 0
      → get_or (run i).unannounced s 0 ≢ get_or (run i).announced s 0 → ShowsAnnouncement w told
  shown_at i k t s within minute of_minute here none other = (
    k,
    within,
    λ e. differ_by (time i t s) (get_or (run i).announced s 0) (get_or (run i).unannounced s 0) none (λ same. other (sym same))
        (sym (told_is i k t s within minute of_minute here) ∙ e ∙ untold_is i k t s within minute of_minute here),
  )

  -- a minute of the walk, by the local time with which that begins
  in_time : (i k : ℕ) → time i (t0 + (p + k) / 60) ((p + k) % 60) ≡ get_or (times_at w.parts ((local_time (run i) t0 + (p + k) / 60) % 1440)) ((p + k) % 60) 0
  in_time i k = ap (λ v. get_or (times_at w.parts v) ((p + k) % 60) 0) (minute_is (run i).shift k)
    where
      minute_is : (shift k : ℕ) → (t0 + (p + k) / 60 + shift) % 1440 ≡ ((t0 + shift) % 1440 + (p + k) / 60) % 1440
      minute_is shift k = omega arith

  -- by the slot
  pub slot_shows : (i k : ℕ) → k < length w.grid.rows → IsInRun w.parts (t0 + (p + k) / 60) i → shows_in w.parts (run i) (local_time (run i) t0) p k ≡ true
      → ShowsAnnouncement w told
  slot_shows i k within here shows =
      let test = of_test (get_or (times_at w.parts ((local_time (run i) t0 + (p + k) / 60) % 1440)) ((p + k) % 60) 0) _ _ shows in
      shown_at i k (t0 + (p + k) / 60) ((p + k) % 60) within refl refl here (in_time i k ∙ test.0) test.1

  pub slot_is_silent : (i k : ℕ) → k < length w.grid.rows → IsInRun w.parts (t0 + (p + k) / 60) i → shows_in w.parts (run i) (local_time (run i) t0) p k ≡ false
      → set_at w.grid.station told k ≡ set_at w.grid.station (unannounced told) k
  slot_is_silent i k within here silent =
      let t : ℕ = t0 + (p + k) / 60 in
      let s : ℕ = (p + k) % 60 in
      let with = told_is i k t s within refl refl here in
      let without = untold_is i k t s within refl refl here in
      elim (cases_eq (time i t s) 0) [
        | inr some ↦ with ∙ same_by_time (time i t s) (get_or (run i).announced s 0) (get_or (run i).unannounced s 0) some ∙ sym without
        | inl none ↦ elim (cases_eq (get_or (run i).unannounced s 0) (get_or (run i).announced s 0)) [
          | inl same ↦ with ∙ ap (overlay (time i t s)) (sym same) ∙ sym without
          | inr other ↦ (let shows = to_test _ _ _ (sym (in_time i k) ∙ none) other in absurd cc)
        ]
      ]

  -- where the date tells the same, the slot doesn't show it
  pub alike_is_silent : (i k : ℕ) → k < length w.grid.rows → IsInRun w.parts (t0 + (p + k) / 60) i → (run i).unannounced ≡ (run i).announced
      → set_at w.grid.station told k ≡ set_at w.grid.station (unannounced told) k
  alike_is_silent i k within here same =
      let t : ℕ = t0 + (p + k) / 60 in
      let s : ℕ = (p + k) % 60 in
      told_is i k t s within refl refl here ∙ ap (λ xs. overlay (time i t s) (get_or xs s 0)) (sym same) ∙ sym (untold_is i k t s within refl refl here)

module _ (w : PricedParts) (costs : List (List ℕ)) (more : List ℕ) (priced : ArePriced w.parts w.grid costs more)
    (p t0 i : ℕ) (regular : IsRegularIn w true p t0 i) where
  abbrev run_of : Run
  run_of = run_at w.parts.runs i

  abbrev in_walk : Sequence
  in_walk = told w priced.station priced.table p t0 regular.second regular.short

  here : (k t : ℕ) → k < length w.grid.rows → t ≡ t0 + (p + k) / 60 → IsInRun w.parts t i
  here k t within minute = record {
    is_run = regular.begins.is_run;
    begun = omega (arith, regular.begins.begun, minute);
    not_over = omega (arith, minute, within, regular.ends);
  }

  shown_in : (k t s : ℕ) → k < length w.grid.rows → t ≡ t0 + (p + k) / 60 → s ≡ (p + k) % 60
      → get_or (times_at w.parts (local_time run_of t)) s 0 ≡ 0 → get_or run_of.unannounced s 0 ≢ get_or run_of.announced s 0 → ShowsAnnouncement w in_walk
  shown_in k t s within minute of_minute =
      shown_at w priced.station priced.table p t0 regular.second regular.short i k t s within minute of_minute (here k t within minute)

  -- by its slots
  pub slots_show : SomeSlotShows w.parts run_of (local_time run_of t0) p 0 (length w.grid.rows) → ShowsAnnouncement w in_walk
  slots_show h = slot_shows w priced.station priced.table p t0 regular.second regular.short i h.0 h.2 (here h.0 _ h.2 refl) h.3

  pub show_slots : ShowsAnnouncement w in_walk → SomeSlotShows w.parts run_of (local_time run_of t0) p 0 (length w.grid.rows)
  show_slots h = elim (cases_Bool (shows_in w.parts run_of (local_time run_of t0) p h.0)) [
    | inl shows ↦ (h.0, omega arith, h.1, shows)
    | inr silent ↦ absurd (h.2 (slot_is_silent w priced.station priced.table p t0 regular.second regular.short i h.0 h.1 (here h.0 _ h.1 refl) silent))
  ]

  -- where the date tells the same, none shows it
  pub none_shown : run_of.unannounced ≡ run_of.announced → ¬ (ShowsAnnouncement w in_walk)
  none_shown same = λ h. h.2 (alike_is_silent w priced.station priced.table p t0 regular.second regular.short i h.0 h.1 (here h.0 _ h.1 refl) same)

  -- where it tells another set, the time of day doesn't always tell of that second
  not_by_time : (s : ℕ) → s < 60 → get_or run_of.unannounced s 0 ≢ get_or run_of.announced s 0 → is_time_second w.parts.station s ≡ false
  not_by_time s lt other = elim (cases_Bool (is_time_second w.parts.station s)) [
    | inl always ↦ absurd (other (priced.table.date_alone false i s regular.begins.is_run lt always ∙ sym (priced.table.date_alone true i s regular.begins.is_run lt always)))
    | inr e ↦ e
  ]

  -- the slot of a second
  abbrev slot : ℕ → ℕ
  slot s = (s + 60 - p) % 60

  second_is : (s : ℕ) → s < 60 → s ≡ (p + slot s) % 60
  second_is s lt = let small = regular.second in omega arith

  pub elsewhere : 60 ≤ length w.grid.rows → DiffersElsewhere w.grid.station run_of → ShowsAnnouncement w in_walk
  elsewhere long d =
      let s : ℕ = d.0 in
      let k : ℕ = slot s in
      let t : ℕ = t0 + (p + k) / 60 in
      let st = w.parts.station in
      let v : ℕ = local_time run_of t in
      let kept = ap (λ (x : Station). is_given_up x s) priced.station ∙ d.2 in
      let silent = tells_by st v s ∙ or_from _ _ (not_by_time s d.1 d.3) (no_call (calls st v) (is_given_up st s) kept) in
      shown_in k t s (omega (arith, long)) refl (second_is s d.1) (priced.table.time_alone v s (omega arith) d.1 silent) d.3

  in_two_minutes : 120 ≤ length w.grid.rows → (s : ℕ) → s < 60 → get_or run_of.unannounced s 0 ≢ get_or run_of.announced s 0 → ShowsAnnouncement w in_walk
  in_two_minutes long s lt other =
      let k : ℕ = slot s in
      let t : ℕ = t0 + (p + k) / 60 in
      let is = second_is s lt in
      let some = priced.table.date_told true i s regular.begins.is_run lt (not_by_time s lt other) in
      elim (leaves w.parts priced.table true i regular.begins.is_run s lt t (λ none. omega (arith, none, some))) [
        | inl first ↦ shown_in k t s (omega (arith, long)) refl is first other
        | inr second ↦ shown_in (k + 60) (t + 1) s (omega (arith, long)) (omega arith) (omega (arith, is)) second other
      ]

  pub all_shown : 120 ≤ length w.grid.rows → (run_of.unannounced ≡ run_of.announced → ⊥) → ShowsAnnouncement w in_walk
  all_shown long other =
      elim (same_or_differ 60 (λ s. get_or run_of.unannounced s 0) (λ s. get_or run_of.announced s 0)) [
        | inr d ↦ in_two_minutes long d.0 d.1 d.2
        | inl same ↦ absurd (other (ext_get_or 0 run_of.unannounced run_of.announced
            (priced.table.date_seconds false i regular.begins.is_run ∙ sym (priced.table.date_seconds true i regular.begins.is_run))
            (λ s lt. same s (omega (arith, lt, priced.table.date_seconds false i regular.begins.is_run)))))
      ]
