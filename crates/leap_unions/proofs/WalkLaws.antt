-- A walk over a leap second goes on to the next day, and what a walk carries without the announcement.
use Rattle.std.proofs.Common.{◌≡◌, ◌≢◌, ◌↔◌, inl, inr, ℕ, ◌+◌, ◌-◌, ◌*◌, ◌/◌, ◌%◌, ◌<◌, ◌≤◌, Bool, false, true, ◌==◌, nat_lt, if◌then◌else◌, List, slice_index, refl, sym, ap, ◌∙◌, subst, arith, zero-add}
use Rattle.std.specs.List.{range_with_len}
use Rattle.std.proofs.lemmas.Bool.{cases_Bool, ne_eqb}
use Rattle.std.proofs.lemmas.List.Folds.{list_all_at}
use Rattle.std.proofs.lemmas.List.FromFn.{get_or-range_with_len, length-range_with_len}
use Rattle.signal_base.specs.declared.station.Station.{Station}
use Rattle.definitions.specs.codes.Allowed.{allowed}
use Rattle.definitions.specs.heard.Costs.{lies_in_one_day}
use Rattle.definitions.specs.sequences.Walks.{next_place, place_at, set_at}
use Rattle.definitions.specs.time.Calendar.{is_leap_end, minute_length}
use Rattle.definitions.proofs.BoundExistLaws.{byte_of}
use Rattle.definitions.proofs.PlaceLaws.{place_at-plain, stays_in_minute}
use Rattle.definitions.proofs.SetLaws.{sent}
use Rattle.sequence.proofs.Walking.{place_at-more}
use Rattle.minute_parts.specs.Unions.{IsUnionOver}
use Rattle.minute_parts.proofs.UnionLaws.{one_union, union_one}
use Rattle.leap_unions.specs.declared.tapes.KeptTape.{KeptTape}
use Rattle.leap_unions.specs.Kept.{IsKeptTape}
use Rattle.leap_unions.specs.Pieces.{announced_from}
use Rattle.leap_unions.specs.declared.walk.LeapWalk.{LeapWalk}
use Rattle.leap_unions.specs.Scope.{Scope}
use Rattle.leap_unions.specs.Walks.{IsLeapWalk, ShowsIn, unannounced_from}
use Rattle.leap_unions.proofs.LeapLaws.{last_of_day}
use Rattle.leap_unions.proofs.NominalLaws.{from_second, goes_on, minutes_on}

long_minute : (t : ℕ) → is_leap_end t ≡ true → minute_length true t ≡ 61
long_minute t leap = ap (λ (long : Bool). if long then 61 else 60) leap

after_leap : (t : ℕ) → is_leap_end t ≡ true → place_at (announced_from 0 t) 61 ≡ (t + 1, 0)
after_leap t leap =
    place_at-more (announced_from 0 t) 60
    ∙ ap (next_place true) (stays_in_minute (announced_from 0 t) 60 (omega (arith, long_minute t leap)))
    ∙ ap (λ (long : ℕ). if nat_lt 61 long then (t, 61) else (t + 1, 0)) (long_minute t leap)

module _ (station : Station) (seconds : ℕ) (kept : KeptTape) (is : IsKeptTape station seconds kept) (second first : ℕ) (small : second < 60)
    (from : kept.lo ≤ first) (before : first < kept.hi) where
  -- from the start of its first minute the walk has 60 seconds in each minute, and 61 in the last
  pub next_day : 60 * (kept.hi - first) + 1 < second + seconds → lies_in_one_day seconds (announced_from second first) ≡ false
  next_day far =
      let q = announced_from second first in
      let m : ℕ = kept.hi - 1 - first in
      let k : ℕ = 60 * m + 61 - second in
      let last : first + m + 1 ≡ kept.hi = omega (arith, before) in
      let leap = is.leap (first + m) last in
      let at : second + k ≡ 60 * m + 61 = omega (arith, small) in
      let there : place_at q k ≡ (first + m + 1, 0) =
      sym (from_second first second k small) ∙ ap (place_at (announced_from 0 first)) at
      ∙ goes_on (announced_from 0 first) (announced_from 0 (first + m)) (60 * m) 61 refl
      (minutes_on first m (λ t ge lt. is.short t (omega (arith, ge, from)) (omega (arith, lt, last))))
      ∙ after_leap (first + m) leap in
      let other : ((place_at q k).0 / 1440 == first / 1440) ≡ false =
      ap (λ (p : ℕ × ℕ). p.0 / 1440 == first / 1440) there
      ∙ ne_eqb ((first + m + 1) / 1440) (first / 1440) (λ same. omega (arith, same, last_of_day (first + m) leap)) in
      let within : k < seconds = omega (arith, far, last, small) in
      let in_day : ℕ → Bool = λ j. (place_at q j).0 / 1440 == first / 1440 in
      list_all_at in_day (range_with_len 0 seconds) k 0 (omega (arith, within, length-range_with_len 0 seconds))
      (ap in_day (get_or-range_with_len 0 seconds k 0 within ∙ zero-add k) ∙ other)

-- what the walk carries without the announcement, by the row of its minutes
pub unannounced_sets : (station : Station) (seconds second first : ℕ) (row : List ℕ) → second < 60
    → ((m s : ℕ) → m ≤ (second + seconds - 1) / 60 → s < 60
    → IsUnionOver station false (first + m) (first + 1 + m) s (slice_index row (60 * m + s)))
    → (k : ℕ) → k < seconds → slice_index row (second + k) ≡ set_at station (unannounced_from second first) k
unannounced_sets station seconds second first row small over k lt =
    let m : ℕ = (second + k) / 60 in
    let s : ℕ = (second + k) % 60 in
    let at : second + k ≡ 60 * m + s = omega arith in
    let next : first + 1 + m ≡ first + m + 1 = omega arith in
    let sets = λ (t : ℕ). allowed station false (t, s) in
    let alone = union_one sets (first + m) (byte_of station (sets (first + m)) (sent station false (first + m) s (omega arith))) in
    let told = subst (λ h. IsUnionOver station false (first + m) h s (slice_index row (60 * m + s))) next (over m s (omega (arith, lt)) (omega arith)) in
    ap (slice_index row) at
    ∙ one_union sets (first + m) (first + m + 1) (slice_index row (60 * m + s)) (sets (first + m)) told alone
    ∙ sym (ap (allowed station false) (place_at-plain (unannounced_from second first) k refl small))

-- whether such a walk shows the announcement, by its sets
pub shown_by : (scope : Scope) (second first : ℕ) (walk : LeapWalk) → IsLeapWalk scope second first walk → (station : Station) → station ≡ scope.station → (shows : Bool)
    → (shows ≡ true → (k : ℕ) × (k < scope.seconds) × (slice_index walk.sets k ≢ set_at station (unannounced_from second first) k))
    → (shows ≡ false → (k : ℕ) → k < scope.seconds → slice_index walk.sets k ≡ set_at station (unannounced_from second first) k)
    → (shows ≡ true ↔ ShowsIn scope second first)
shown_by scope second first walk is station same shows shown hidden = (
  λ e.
      let found = shown e in
      (found.0, found.1, λ alike. found.2 (is.sets found.0 found.1 ∙ alike ∙ ap (λ (s : Station). set_at s (unannounced_from second first) found.0) (sym same))),
  λ some. elim (cases_Bool shows) [
    | inl e ↦ e
    | inr not ↦ absurd (some.2 (sym (is.sets some.0 some.1) ∙ hidden not some.0 some.1 ∙ ap (λ (s : Station). set_at s (unannounced_from second first) some.0) same))
  ],
)
