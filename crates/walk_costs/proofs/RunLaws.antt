-- The runs of a station's minutes follow one another.
use Rattle.std.proofs.Common.{◌≡◌, ℕ, zero, suc, ◌+◌, ◌-◌, ◌<◌, ◌≤◌, inl, inr, Bool, if◌then◌else◌, List, [], length, get_or, ap, ◌∙◌, arith}
use Rattle.std.proofs.lemmas.Bool.{cases_lt, le-ltb, lt-ltb}
use Rattle.std.proofs.lemmas.List.{get_or_default, same_lists}
use Rattle.definitions.specs.time.Calendar.{century_minutes}
use Rattle.minute_parts.specs.Parts.{IsInRun, IsPartTable, PartTable}
use Rattle.minute_parts.specs.Runs.{end_of_run, first_of}

-- lists of the same parts
pub same_parts : (xs ys : List (List ℕ)) → length xs ≡ length ys → ((k : ℕ) → k < length xs → get_or xs k [] ≡ get_or ys k []) → xs ≡ ys
same_parts xs ys long same =
    same_lists xs ys long (λ k d within. get_or_default xs k d [] within ∙ same k within ∙ get_or_default ys k [] d (omega (arith, long, within)))

module _ (parts : PartTable) (table : IsPartTable parts) where
  end_at : ℕ → ℕ
  end_at i = end_of_run parts.runs parts.end i

  next : (i : ℕ) → i + 1 < length parts.runs → end_at i ≡ first_of parts.runs (i + 1)
  unfolding end_at
  next i lt = ap (λ (b : Bool). if b then first_of parts.runs (i + 1) else parts.end) (lt-ltb (i + 1) (length parts.runs) lt)

  ends_by : (k i : ℕ) → i + k + 1 ≡ length parts.runs → end_of_run parts.runs parts.end i ≤ parts.end
  unfolding end_at
  ends_by zero i is =
      let last = ap (λ (b : Bool). if b then first_of parts.runs (i + 1) else parts.end) (le-ltb (i + 1) (length parts.runs) (omega arith)) in
      omega (arith, last)
  ends_by (suc k) i is = omega (arith, next i (omega arith), table.rise (i + 1) (omega arith), ends_by k (i + 1) (omega arith))

  -- no run goes on after the last minute that is encoded
  pub ends : (i : ℕ) → i < length parts.runs → end_of_run parts.runs parts.end i ≤ parts.end
  ends i lt = ends_by (length parts.runs - i - 1) i (omega arith)

  pub in_century : parts.end ≤ century_minutes
  in_century = elim (cases_lt century_minutes parts.end) [
    | inl lt ↦ absurd (omega (arith, ((table.ends century_minutes).0 lt).0))
    | inr le ↦ le
  ]

  -- and each begins in the century
  pub begins_in_century : (i : ℕ) → i < length parts.runs → first_of parts.runs i < century_minutes
  begins_in_century i lt = omega (arith, table.rise i lt, ends i lt, in_century)

  rises : (k i : ℕ) → i + suc k < length parts.runs → end_of_run parts.runs parts.end i ≤ first_of parts.runs (i + suc k)
  unfolding end_at
  rises zero i lt = let one : i + 1 ≡ i + suc zero = omega arith in omega (arith, next i (omega arith), ap (first_of parts.runs) one)
  rises (suc k) i lt =
      let one : i + suc k + 1 ≡ i + suc (suc k) = omega arith in
      omega (arith, rises k i (omega arith), table.rise (i + suc k) (omega arith), next (i + suc k) (omega arith), ap (first_of parts.runs) one)

  not_later : (t i j : ℕ) → IsInRun parts t i → IsInRun parts t j → i < j → ⊥
  not_later t i j here there lt =
      let is : i + suc (j - i - 1) ≡ j = omega arith in
      omega (arith, rises (j - i - 1) i (omega (arith, there.is_run)), ap (first_of parts.runs) is, here.not_over, there.begun)

  -- a minute lies in one run
  pub one_run : (t i j : ℕ) → IsInRun parts t i → IsInRun parts t j → i ≡ j
  one_run t i j here there = elim (cases_lt i j) [
    | inl lt ↦ absurd (not_later t i j here there lt)
    | inr le ↦ elim (cases_lt j i) [
      | inl more ↦ absurd (not_later t j i there here more)
      | inr less ↦ omega arith
    ]
  ]
