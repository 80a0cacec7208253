-- The minute that a text says.
use Rattle.std.proofs.Common.{◌≡◌, ℕ, zero, suc, ◌+◌, ◌/◌, ◌%◌, ◌<◌, ◌≤◌, Bool, true, false, if◌then◌else◌, List, take, get_or, bytes_eq, Some, None, refl, sym, ap, subst, ◌∙◌, inl, inr, arith}
use Rattle.std.proofs.lemmas.Bool.{cases_order, false_from_ne_true}
use Rattle.std.proofs.lemmas.Slice.Eq.{bytes_eq-Decides}
use Rattle.definitions.specs.time.Calendar.{century_minutes, day_at, minutes_per_day}
use Rattle.definitions.specs.time.Spelling.{day_text, minute_text}
use Rattle.definitions.proofs.DateLaws.{days_differ}
use Rattle.formats.specs.WordValues.{first_from, minute_of}

-- different minutes have different texts
same_minute : (s t : ℕ) → s < century_minutes → t < century_minutes → minute_text s ≡ minute_text t → s ≡ t
same_minute s t early also e =
    let date : day_text (day_at (s / minutes_per_day)) ≡ day_text (day_at (t / minutes_per_day)) = ap (take 10) e in
    let day = days_differ (s / minutes_per_day) (t / minutes_per_day) (omega arith) (omega arith) date in
    let hour_tens = ap (λ (text : List ℕ). get_or text 11 0) e in
    let hour_units = ap (λ (text : List ℕ). get_or text 12 0) e in
    let tens = ap (λ (text : List ℕ). get_or text 14 0) e in
    let units = ap (λ (text : List ℕ). get_or text 15 0) e in
    let hour : s % minutes_per_day / 60 ≡ t % minutes_per_day / 60 = omega (arith, hour_tens, hour_units) in
    let minute : s % 60 ≡ t % 60 = omega (arith, tens, units) in
    omega (arith, day, hour, minute)

-- the first number that passes a test passes it, and lies in the range
abbrev Finds : ℕ → ℕ → (ℕ → Bool) → ℕ → Type 0
Finds n more test k = (n ≤ k) × (k < n + more) × (test k ≡ true)

found : (n more : ℕ) (test : ℕ → Bool) (k : ℕ) → first_from n more test ≡ Some k → Finds n more test k
unfolding first_from
found n zero test k e = absurd cc
found n (suc more) test k e = by_cases (test n) refl (found (n + 1) more test k) e
  where
    by_cases : (b : Bool) → test n ≡ b → (first_from (n + 1) more test ≡ Some k → Finds (n + 1) more test k)
        → (if b then Some n else first_from (n + 1) more test) ≡ Some k → Finds n (suc more) test k
    by_cases true good later e = let same : n ≡ k = cc in (omega arith, omega arith, cc)
    by_cases false bad later e = let is = later e in (omega (arith, is), omega (arith, is), is.2)

-- if some number of the range passes, one is found
finds : (n more : ℕ) (test : ℕ → Bool) (k : ℕ) → Finds n more test k → (m : ℕ) × (first_from n more test ≡ Some m)
unfolding first_from
finds n zero test k is = absurd (omega (arith, is))
finds n (suc more) test k is = by_cases (test n) refl (finds (n + 1) more test k)
  where
    by_cases : (b : Bool) → test n ≡ b → (Finds (n + 1) more test k → (m : ℕ) × (first_from (n + 1) more test ≡ Some m))
        → (m : ℕ) × ((if b then Some n else first_from (n + 1) more test) ≡ Some m)
    by_cases true good later = (n, refl)
    by_cases false bad later =
        elim (cases_order n k) [
          | inl same ↦ absurd (let e : test k ≡ false = subst (λ i. test i ≡ false) same bad in let f = is.2 in cc)
          | inr apart ↦ elim apart [
            | inl lt ↦ later (omega arith, omega (arith, is), is.2)
            | inr gt ↦ absurd (omega (arith, is, gt))
          ]
        ]

-- if none passes, none is found
none_found : (n more : ℕ) (test : ℕ → Bool) → ((k : ℕ) → n ≤ k → k < n + more → test k ≡ false) → first_from n more test ≡ None
unfolding first_from
none_found n zero test fails = refl
none_found n (suc more) test fails =
    rw (fails n (omega arith) (omega arith)) (none_found (n + 1) more test (λ k from below. fails k (omega arith) (omega arith)))

-- a minute is said by its text and by no other
abbrev is_text_of : List ℕ → ℕ → Bool
is_text_of text t = bytes_eq text (minute_text t)

pub minute_of-text : (text : List ℕ) (t : ℕ) → minute_of text ≡ Some t → (t < century_minutes) × (text ≡ minute_text t)
unfolding minute_of
minute_of-text text t e =
    let is = found 0 century_minutes (is_text_of text) t e in
    (omega (arith, is), (bytes_eq-Decides text (minute_text t)).0 is.2)

pub minute_of-found : (text : List ℕ) (t : ℕ) → t < century_minutes → text ≡ minute_text t → minute_of text ≡ Some t
unfolding minute_of
minute_of-found text t early e =
    let first = finds 0 century_minutes (is_text_of text) t (omega arith, omega arith, (bytes_eq-Decides text (minute_text t)).1 e) in
    let is = found 0 century_minutes (is_text_of text) first.0 first.1 in
    let its = (bytes_eq-Decides text (minute_text first.0)).0 is.2 in
    let same : first.0 ≡ t = same_minute first.0 t (omega (arith, is)) early (sym its ∙ e) in
    first.1 ∙ ap Some same

pub minute_of-minute : (t : ℕ) → t < century_minutes → minute_of (minute_text t) ≡ Some t
minute_of-minute t early = minute_of-found (minute_text t) t early refl

-- a text that is no minute's says none
pub minute_of-none : (text : List ℕ) → ((t : ℕ) → t < century_minutes → text ≡ minute_text t → ⊥) → minute_of text ≡ None
unfolding minute_of
minute_of-none text none =
    none_found 0 century_minutes (is_text_of text)
    (λ t from below. false_from_ne_true (is_text_of text t) (λ e. none t (omega arith) ((bytes_eq-Decides text (minute_text t)).0 e)))
