-- Where a walk is that has 60 seconds in each minute, and whether it stays in one day.
use Rattle.std.proofs.Common.{◌≡◌, ℕ, zero, suc, ◌+◌, ◌-◌, ◌/◌, ◌%◌, ◌<◌, ◌≤◌, ◌⊎◌, inl, inr, Bool, true, false, ◌==◌, ◌&&◌, nat_lt, if◌then◌else◌, [], ◌∷◌, map, refl, sym, ap, ◌∙◌, arith}
use Rattle.std.specs.List.{list_all, range_with_len}
use Rattle.std.proofs.lemmas.Bool.{cases_lt, eq-eqb, eqb-true, lt-ltb, ltb-true, ltb-false}
use Rattle.std.proofs.lemmas.List.Folds.{list_all-append, list_all-map}
use Rattle.std.proofs.lemmas.List.FromFn.{map-range_with_len_more}
use Rattle.definitions.specs.declared.sequence.Sequence.{Sequence}
use Rattle.definitions.specs.time.Calendar.{is_leap_end, minute_length}
use Rattle.definitions.specs.sequences.Walks.{next_place, place_at}
use Rattle.definitions.specs.heard.Costs.{lies_in_one_day}

same_place : (m s m' s' : ℕ) → m ≡ m' → s ≡ s' → ◌≡◌ {A = ℕ × ℕ} (m, s) (m', s')
same_place m s m' s' e g = cc

-- the second that comes i seconds after the start of a minute, where the minutes have 60
abbrev pub plain_place : ℕ → ℕ → ℕ × ℕ
plain_place t i = (t + i / 60, i % 60)

step_by : (t i n : ℕ) (b : Bool) → n ≡ 60 → nat_lt (i % 60 + 1) n ≡ b
    → (if b then (t + i / 60, i % 60 + 1) else (t + i / 60 + 1, 0)) ≡ plain_place t (suc i)
step_by t i n true is e =
    let within = ltb-true (i % 60 + 1) n e in
    same_place _ _ _ _ (omega arith) (omega arith)
step_by t i n false is e =
    let last = ltb-false (i % 60 + 1) n e in
    same_place _ _ _ _ (omega arith) (omega arith)

step : (announced : Bool) (t i : ℕ) → minute_length announced (t + i / 60) ≡ 60 → next_place announced (plain_place t i) ≡ plain_place t (suc i)
step announced t i short =
    step_by t i (minute_length announced (t + i / 60)) (nat_lt (i % 60 + 1) (minute_length announced (t + i / 60))) short refl

-- days that are that of the first minute, up to a minute and up to a later one
one_more : (first some more : ℕ) → first ≤ some → some ≤ more
    → ((some / 1440 == first / 1440) && (more / 1440 == first / 1440)) ≡ (more / 1440 == first / 1440)
one_more first some more le less = by_test (more / 1440 == first / 1440) refl
  where
    and_false : (b : Bool) → (b && false) ≡ false
    and_false true = refl
    and_false false = refl

    by_test : (t : Bool) → (more / 1440 == first / 1440) ≡ t → ((some / 1440 == first / 1440) && (more / 1440 == first / 1440)) ≡ (more / 1440 == first / 1440)
    by_test true e =
        let same = eqb-true (more / 1440) (first / 1440) e in
        ap (λ b. b && (more / 1440 == first / 1440)) (eq-eqb (some / 1440) (first / 1440) (omega arith))
    by_test false e = ap (λ b. (some / 1440 == first / 1440) && b) e ∙ and_false (some / 1440 == first / 1440) ∙ sym e

and_true : (b : Bool) → (b && true) ≡ b
and_true true = refl
and_true false = refl

list_all-range_more : (f : ℕ → Bool) (n : ℕ) → list_all f (range_with_len 0 (n + 1)) ≡ (list_all f (range_with_len 0 n) && f n)
list_all-range_more f n =
    let self = λ (k : ℕ). k in
    sym (list_all-map f self (range_with_len 0 (n + 1))) ∙ ap (list_all f) (map-range_with_len_more self 0 n n (omega arith))
    ∙ list_all-append f (map self (range_with_len 0 n)) (n ∷ [])
    ∙ ap (λ b. b && (f n && true)) (list_all-map f self (range_with_len 0 n))
    ∙ ap (λ b. list_all f (range_with_len 0 n) && b) (and_true (f n))

-- no minute has fewer
step_within : (announced : Bool) (t i : ℕ) → i % 60 + 1 < 60 → next_place announced (plain_place t i) ≡ plain_place t (suc i)
step_within announced t i within = by_length (announced && is_leap_end (t + i / 60))
  where
    by_length : (long : Bool) → (if nat_lt (i % 60 + 1) (if long then 61 else 60) then (t + i / 60, i % 60 + 1) else (t + i / 60 + 1, 0)) ≡ plain_place t (suc i)
    by_length true = ap (λ (b : Bool). if b then (t + i / 60, i % 60 + 1) else (t + i / 60 + 1, 0)) (lt-ltb (i % 60 + 1) 61 (omega (arith, within))) ∙ same_place _ _ _ _ (omega (arith, within)) (omega (arith, within))
    by_length false = ap (λ (b : Bool). if b then (t + i / 60, i % 60 + 1) else (t + i / 60 + 1, 0)) (lt-ltb (i % 60 + 1) 60 within) ∙ same_place _ _ _ _ (omega (arith, within)) (omega (arith, within))

-- what holds of a walk's minutes does of all but the last
pub but_last : (announced : Bool) (first last : ℕ) → ((t : ℕ) → first ≤ t → t ≤ last → minute_length announced t ≡ 60)
    → (t : ℕ) → first ≤ t → t < last → minute_length announced t ≡ 60
but_last announced first last short t ge lt = short t ge (omega (arith, lt))

-- a walk whose minutes have 60 seconds but for the last, in which it ends before the sixty-first
module _ (q : Sequence) (n : ℕ) (second : q.second < 60)
    (short : (t : ℕ) → q.first ≤ t → t < q.first + (q.second + n - 1) / 60 → minute_length q.announced t ≡ 60) where
  -- slot k is second (p + k) mod 60 of walk minute (p + k) div 60
  pub nominal_but_last : (k : ℕ) → k < n → place_at q k ≡ plain_place q.first (q.second + k)
  unfolding place_at
  nominal_but_last zero within = same_place _ _ _ _ (omega arith) (omega arith)
  nominal_but_last (suc k) within =
      let one_more : suc (q.second + k) ≡ q.second + suc k = omega arith in
      ap (next_place q.announced) (nominal_but_last k (omega arith)) ∙ on (cases_lt ((q.second + k) / 60) ((q.second + n - 1) / 60)) ∙ ap (plain_place q.first) one_more
    where
      on : ((q.second + k) / 60 < (q.second + n - 1) / 60) ⊎ ((q.second + n - 1) / 60 ≤ (q.second + k) / 60)
          → next_place q.announced (plain_place q.first (q.second + k)) ≡ plain_place q.first (suc (q.second + k))
      on (inl before) = step q.announced q.first (q.second + k) (short (q.first + (q.second + k) / 60) (omega arith) (omega (arith, before)))
      on (inr last) = step_within q.announced q.first (q.second + k) (omega (arith, within, last))

  -- its day is that of the first minute
  abbrev pub in_day : ℕ → Bool
  in_day k = (place_at q k).0 / 1440 == q.first / 1440

  day_of : (k : ℕ) → k < n → in_day k ≡ ((q.first + (q.second + k) / 60) / 1440 == q.first / 1440)
  day_of k within = ap (λ (place : ℕ × ℕ). place.0 / 1440 == q.first / 1440) (nominal_but_last k within)

  abbrev pub reached : ℕ → ℕ
  reached m = q.first + (q.second + m - 1) / 60

  -- the first slots lie in one day where the last of them does
  first_slots : (m : ℕ) → m ≤ n → list_all in_day (range_with_len 0 m) ≡ (reached m / 1440 == q.first / 1440)
  first_slots zero few = sym (eq-eqb ((q.first + (q.second + 0 - 1) / 60) / 1440) (q.first / 1440) (ap (λ t. t / 1440) (omega arith)))
  first_slots (suc m) few =
      let more : suc m ≡ m + 1 = omega arith in
      let last : q.first + (q.second + suc m - 1) / 60 ≡ q.first + (q.second + m) / 60 = omega arith in
      ap (λ k. list_all in_day (range_with_len 0 k)) more ∙ list_all-range_more in_day m
      ∙ ap (λ b. b && in_day m) (first_slots m (omega (arith, few)))
      ∙ ap (λ b. (reached m / 1440 == q.first / 1440) && b) (day_of m (omega (arith, few)))
      ∙ one_more q.first (q.first + (q.second + m - 1) / 60) (q.first + (q.second + m) / 60) (omega arith) (omega arith)
      ∙ ap (λ t. t / 1440 == q.first / 1440) (sym last)

  pub one_day : lies_in_one_day n q ≡ ((q.first + (q.second + n - 1) / 60) / 1440 == q.first / 1440)
  one_day = first_slots n (omega arith)

-- the same of one whose minutes have 60 seconds
pub nominal : (q : Sequence) (n : ℕ) → q.second < 60
    → ((t : ℕ) → q.first ≤ t → t ≤ q.first + (q.second + n - 1) / 60 → minute_length q.announced t ≡ 60)
    → (k : ℕ) → k < n → place_at q k ≡ plain_place q.first (q.second + k)
nominal q n second short = nominal_but_last q n second (but_last q.announced q.first (q.first + (q.second + n - 1) / 60) short)
