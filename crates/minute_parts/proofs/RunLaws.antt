-- How runs cover more and more minutes.
use Rattle.std.proofs.Common.{◌≡◌, ◌≢◌, ℕ, ◌+◌, ◌*◌, ◌/◌, ◌<◌, ◌≤◌, ◌⊎◌, inl, inr, Bool, true, false, not, ◌==◌, ◌&&◌, nat_lt, if◌then◌else◌, List, [], ◌∷◌, ◌++◌, length, slice_index, refl, sym, ap, ◌∙◌, subst, arith, below_more}
use Rattle.std.proofs.Math.Bool.{beq}
use Rattle.std.proofs.Math.ListN.{get_or-append}
use Rattle.std.proofs.lemmas.List.{get_or_push, length_push}
use Rattle.std.proofs.lemmas.Bool.{cases_lt, eq-eqb, le-ltb, lt-ltb, ltb-true, ltb-false}
use Rattle.signal_base.specs.declared.station.Station.{Station}
use Rattle.minute_parts.specs.declared.dates.DateFacts.{DateFacts}
use Rattle.minute_parts.specs.declared.runs.Run.{Run}
use Rattle.minute_parts.specs.Dates.{date_facts}
use Rattle.minute_parts.specs.Runs.{Covers, Extends, Points, days_before, end_of_run, first_of, last_of, no_run, run_at, run_by}

-- the test that compares facts passes where they are the same
beq_same : (b : Bool) → beq b b ≡ true
beq_same true = refl
beq_same false = refl

abbrev are_same : DateFacts → DateFacts → Bool
are_same a b =
    (a.day.year == b.day.year)
    && ((a.day.month == b.day.month) && ((a.day.day == b.day.day) && ((a.day.weekday == b.day.weekday) && (a.day.day_of_year == b.day.day_of_year))))
    && (beq a.summer b.summer && (beq a.change b.change && ((a.us_code == b.us_code) && beq a.leap b.leap)))

same_test : (f : DateFacts) → are_same f f ≡ true
same_test f =
    rw (
      eq-eqb f.day.year f.day.year refl,
      eq-eqb f.day.month f.day.month refl,
      eq-eqb f.day.day f.day.day refl,
      eq-eqb f.day.weekday f.day.weekday refl,
      eq-eqb f.day.day_of_year f.day.day_of_year refl,
      beq_same f.summer,
      beq_same f.change,
      eq-eqb f.us_code f.us_code refl,
    ) (beq_same f.leap)

pub differ : (a b : DateFacts) → true ≡ not (are_same a b) → b ≢ a
differ a b apart same = let passes = subst (λ f. are_same a f ≡ true) (sym same) (same_test a) in cc

module _ (station : Station) where
  abbrev facts : ℕ → DateFacts
  facts = date_facts station

  abbrev run_from : ℕ → Run
  run_from t = run_by station t (facts t)

  -- a run that begins at t, after runs that cover what comes before
  module _ (runs : List Run) (date : DateFacts) (t : ℕ) (covered : Covers station runs date t) (other : date ≢ facts t) where
    abbrev more : List Run
    more = runs ++ run_from t ∷ []

    long : length more ≡ length runs + 1
    long = length_push runs (run_from t)

    old_at : (i : ℕ) → i < length runs → run_at more i ≡ run_at runs i
    old_at i lt = get_or-append runs (run_from t ∷ []) no_run i lt

    new_at : run_at more (length runs) ≡ run_from t
    new_at = get_or_push runs (run_from t) no_run (length runs) refl

    old_first : (i : ℕ) → i < length runs → first_of more i ≡ first_of runs i
    old_first i lt = ap (λ (r : Run). r.first) (old_at i lt)

    new_first : first_of more (length runs) ≡ t
    new_first = ap (λ (r : Run). r.first) new_at

    begun_before : first_of runs (last_of runs) < t
    begun_before = elim (cases_lt (first_of runs (last_of runs)) t) [
      | inl lt ↦ lt
      | inr le ↦
          let here : first_of runs (last_of runs) ≡ t = omega (arith, le, covered.last) in
          absurd (other (covered.latest ∙ ap facts here))
    ]

    each : (i : ℕ) → i < length runs + 1 → run_at more i ≡ run_from (first_of more i)
    each = below_more (λ i. run_at more i ≡ run_from (first_of more i)) (length runs)
        (λ i lt. old_at i lt ∙ covered.each i lt ∙ ap run_from (sym (old_first i lt)))
        (new_at ∙ ap run_from (sym new_first))

    rise_by : (i : ℕ) → i + 1 < length runs + 1 → (i + 1 < length runs) ⊎ (length runs ≤ i + 1) → first_of more i < first_of more (i + 1)
    rise_by i lt (inl less) = omega (arith, covered.rise i less, old_first i (omega arith), old_first (i + 1) less)
    rise_by i lt (inr same) =
        let before : i < length runs = omega arith in
        let here : i + 1 ≡ length runs = omega arith in
        let last : i ≡ last_of runs = omega arith in
        omega (arith, old_first i before, ap (first_of more) here, new_first, ap (first_of runs) last, begun_before)

    -- a run that isn't the new one ends where it ended
    end_by : (i : ℕ) → i < length runs → (less : Bool) → nat_lt (i + 1) (length runs) ≡ less
        → first_of more (i + 1) ≡ (if less then first_of runs (i + 1) else t)
    end_by i lt true e = old_first (i + 1) (ltb-true _ _ e)
    end_by i lt false e =
        let le = ltb-false _ _ e in
        let here : i + 1 ≡ length runs = omega (arith, le) in
        ap (first_of more) here ∙ new_first

    same_end : (i : ℕ) → i < length runs → end_of_run more t i ≡ end_of_run runs t i
    same_end i lt =
        let inside : i + 1 < length more = omega (arith, long) in
        rw (lt-ltb (i + 1) (length more) inside) (end_by i lt _ refl)

    last_end : end_of_run more t (length runs) ≡ t
    last_end =
        let outside : length more ≤ length runs + 1 = omega (arith, long) in
        rw (le-ltb (length runs + 1) (length more) outside) refl

    abbrev SameFacts : ℕ → Type 0
    SameFacts i = (v : ℕ) → first_of more i ≤ v → v < end_of_run more t i → facts v ≡ facts (first_of more i)

    same : (i : ℕ) → i < length runs + 1 → SameFacts i
    same = below_more SameFacts (length runs)
        (λ i lt v le end. covered.same i v lt (omega (arith, le, old_first i lt)) (omega (arith, end, same_end i lt)) ∙ ap facts (sym (old_first i lt)))
        (λ v le end. absurd (omega (arith, le, end, new_first, last_end)))

    pub pushed : Covers station more (facts t) t
    pushed =
        let is_last : last_of more ≡ length runs = omega (arith, long) in
        let last_first : first_of more (last_of more) ≡ t = ap (first_of more) is_last ∙ new_first in
        record {
          some = omega (arith, long);
          begins = old_first 0 covered.some ∙ covered.begins;
          each = λ i lt. each i (omega (arith, lt, long));
          rise = λ i lt. rise_by i (omega (arith, lt, long)) (cases_lt (i + 1) (length runs));
          last = omega (arith, last_first);
          latest = ap facts (sym last_first);
          same = λ i v lt. same i (omega (arith, lt, long)) v;
        }

  -- the same, told of a list and a run that are equal to these
  pub added : (runs longer : List Run) (date here : DateFacts) (t : ℕ) (r : Run) → Covers station runs date t → date ≢ here → here ≡ facts t
      → r ≡ run_by station t here → longer ≡ runs ++ r ∷ [] → Covers station longer here t
  added runs longer date here t r covered other is new all =
      let run : r ≡ run_from t = new ∙ ap (run_by station t) is in
      let apart : date ≢ facts t = (λ e. other (e ∙ sym is)) in
      subst (λ xs. Covers station xs here t) (sym (all ∙ ap (λ x. runs ++ x ∷ []) run))
      (subst (λ f. Covers station (runs ++ run_from t ∷ []) f t) (sym is) (pushed runs date t covered apart))

  -- the last run goes on where the facts stay
  module _ (runs : List Run) (date : DateFacts) (t next : ℕ) (covered : Covers station runs date t) (here : date ≡ facts t) (le : t ≤ next)
      (stays : (v : ℕ) → t ≤ v → v < next → facts v ≡ facts t) where
    within : (i v : ℕ) → i < length runs → first_of runs i ≤ v → (less : Bool) → nat_lt (i + 1) (length runs) ≡ less
        → v < (if less then first_of runs (i + 1) else next) → facts v ≡ facts (first_of runs i)
    within i v lt from true e end = covered.same i v lt from (rw e end)
    within i v lt from false e end = elim (cases_lt v t) [
      | inl before ↦ covered.same i v lt from (rw e before)
      | inr after ↦
          let last : i ≡ last_of runs = (let over = ltb-false (i + 1) (length runs) e in omega (arith, over)) in
          stays v after end ∙ sym here ∙ covered.latest ∙ ap (λ j. facts (first_of runs j)) (sym last)
    ]

    pub longer : Covers station runs date next
    longer = record {
      some = covered.some;
      begins = covered.begins;
      each = covered.each;
      rise = covered.rise;
      last = omega (arith, covered.last);
      latest = covered.latest;
      same = λ i v lt from end. within i v lt from _ refl end;
    }

-- the first runs stay as they are where one is added
pub extended : (runs more : List Run) (r : Run) → more ≡ runs ++ r ∷ [] → Extends more runs
extended runs more r all = record {
  longer = omega (arith, ap length all, length_push runs r);
  front = λ i lt. ap (λ xs. run_at xs i) all ∙ get_or-append runs (r ∷ []) no_run i lt;
}

pub unchanged : (runs : List Run) → Extends runs runs
unchanged runs = record { longer = omega arith; front = λ i lt. refl }

-- and what points to them still does
pub still_points : (days : List ℕ) (runs more : List Run) (n : ℕ) → Extends more runs → Points days runs n → Points days more n
still_points days runs more n grown points = record {
  long = points.long;
  within = λ d lt. omega (arith, points.within d lt, grown.longer);
  before = λ d lt. omega (arith, points.before d lt, ap (λ (r : Run). r.first) (grown.front (slice_index days d) (points.within d lt)));
}

-- no more days begin up to a minute of the next day's beginning at most
pub same_days : (t next : ℕ) → t < next → next ≤ (t / 1440 + 1) * 1440 → days_before next ≡ days_before (t + 1)
same_days t next lt le = omega arith
