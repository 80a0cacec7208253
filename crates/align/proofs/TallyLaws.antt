-- Counters to which edges are added one by one.
use Rattle.std.proofs.Common.{◌≡◌, ◌≢◌, ℕ, zero, suc, ◌+◌, ◌*◌, ◌<◌, inl, inr, List, length, get_or, set, refl, arith, add-one, suc-mul, get_or-set_other, replicate, get_or-set_same}
use Rattle.std.proofs.lemmas.Bool.{cases_order}
use Rattle.std.proofs.lemmas.List.{get_or-replicate, get_or_past, length-replicate}
use Rattle.definitions.specs.heard.Costs.{sum_below}
use Rattle.definitions.proofs.CostLaws.{sum_below_same, sum_below_bound}
use Rattle.align.specs.Counters.{tally}

-- sums of which one term differs
one_more : (n o d : ℕ) (f h : ℕ → ℕ) → o < n → ((k : ℕ) → k ≢ o → h k ≡ f k) → h o ≡ f o + d → sum_below n h ≡ sum_below n f + d
unfolding sum_below
one_more zero o d f h within same here = absurd (omega arith)
one_more (suc n) o d f h within same here = elim (cases_order n o) [
  | inl at ↦ (
      let before = sum_below_same n h f (λ k lt. same k (λ e. omega arith)) in
      let last : h n ≡ f n + d = rw at here in
      omega arith)
  | inr (inl lt) ↦ absurd (omega arith)
  | inr (inr gt) ↦ (
      let before = one_more n o d f h gt same here in
      let last = same n (λ e. omega arith) in
      omega arith)
]

-- one more edge at offset o
pub tally_more : (counts : List ℕ) (o : ℕ) (g : ℕ → ℕ) → length counts ≡ 1000 → o < 1000
    → tally (set counts o (get_or counts o 0 + 1)) g ≡ tally counts g + g o
tally_more counts o g long within =
    let inside : o < length counts = omega arith in
    one_more 1000 o (g o) (λ k. get_or counts k 0 * g k) (λ k. get_or (set counts o (get_or counts o 0 + 1)) k 0 * g k) within
    (λ k ne. rw get_or-set_other refl)
    (rw get_or-set_same (rw (add-one, suc-mul) (omega arith)))

-- before the first edge
pub none_counted : (n o : ℕ) → ◌≡◌ {A = ℕ} (get_or (replicate n 0) o 0) 0
none_counted n o =
    let long : length (replicate {A = ℕ} n 0) ≡ n = length-replicate {A = ℕ} n 0 in
    elim (cases_order o n) [
      | inl same ↦ get_or_past (replicate n 0) o 0 (omega arith)
      | inr (inl lt) ↦ get_or-replicate n o 0 0 lt
      | inr (inr gt) ↦ get_or_past (replicate n 0) o 0 (omega arith)
    ]

pub tally_none : (counts : List ℕ) (g : ℕ → ℕ) → ((o : ℕ) → get_or counts o 0 ≡ 0) → tally counts g ≡ 0
tally_none counts g none =
    let small = sum_below_bound 1000 0 (λ k. get_or counts k 0 * g k) (λ k lt. rw (none k) (omega arith)) in
    omega arith
