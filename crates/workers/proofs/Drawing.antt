-- The items with the numbers drawn, where no number was drawn twice.
use Rattle.std.proofs.Common.{◌≡◌, ℕ, zero, suc, ◌+◌, ◌*◌, ◌<◌, ◌≤◌, Bool, true, false, ◌==◌, nat_lt, if◌then◌else◌, List, [], ◌∷◌, length, slice_get, Option, Some, None, refl, sym, ap, ◌∙◌, subst, ⊎_elim, arith}
use Rattle.std.specs.List.{AllByRecursion, Contains, sum_by, filter_map, cons_option}
use Rattle.std.proofs.lemmas.Bool.{cases_Bool, cases_eq, eq-eqb, ne_eqb, lt-ltb, ltb-true}
use Rattle.std.proofs.lemmas.List.Sums.{sum_by-cons}
use Rattle.definitions.specs.declared.sequence.Sequence.{Sequence}
use Rattle.definitions.specs.declared.block.Block.{Block}
use Rattle.definitions.specs.answers.Blocks.{IsIn}
use Rattle.race_words.specs.Sound.{times, HasEachOnce}
use Rattle.block_visits.proofs.TwoLeast.{stands}
use Rattle.block_visits.proofs.Counting.{is_in, true_is_in, one_if, one_in, count_in}

-- the numbers above 0, each less by one
lowered : List ℕ → List ℕ
lowered [] = []
lowered (zero ∷ ns) = lowered ns
lowered (suc n ∷ ns) = n ∷ lowered ns

same_one : (m n : ℕ) → one_if (suc m == suc n) ≡ one_if (m == n)
same_one m n =
    ⊎_elim (λ e. ap one_if (eq-eqb (suc m) (suc n) (ap suc e) ∙ sym (eq-eqb m n e)))
    (λ other. ap one_if (ne_eqb (suc m) (suc n) (λ e. other (omega arith)) ∙ sym (ne_eqb m n other))) (cases_eq m n)

times_lowered : (n : ℕ) (ns : List ℕ) → times n (lowered ns) ≡ times (suc n) ns
unfolding lowered
times_lowered n [] = refl
times_lowered n (zero ∷ ns) =
    let none : one_if (zero == suc n) ≡ 0 = ap one_if (ne_eqb zero (suc n) (λ e. omega arith)) in
    omega (arith, times_lowered n ns, none, sum_by-cons (λ y. one_if (y == suc n)) zero ns)
times_lowered n (suc m ∷ ns) =
    omega (arith, times_lowered n ns, same_one m n, sum_by-cons (λ y. one_if (y == suc n)) (suc m) ns, sum_by-cons (λ y. one_if (y == n)) m (lowered ns))

module _ {X : Type 0} (f : X → ℕ) where
  -- what an item weighs, if there is one
  abbrev weight : Option X → ℕ
  weight None = 0
  weight (Some x) = f x

  abbrev weight_at : List X → ℕ → ℕ
  weight_at xs n = weight (slice_get xs n)

  weight_lowered : (x : X) (xs : List X) (ns : List ℕ) → sum_by (weight_at (x ∷ xs)) ns ≡ times 0 ns * f x + sum_by (weight_at xs) (lowered ns)
  unfolding lowered
  weight_lowered x xs [] = omega arith
  weight_lowered x xs (zero ∷ ns) =
      subst (λ t. sum_by (weight_at (x ∷ xs)) (zero ∷ ns) ≡ t * f x + sum_by (weight_at xs) (lowered ns)) (sym (sum_by-cons (λ y. one_if (y == 0)) zero ns))
      (omega (arith, weight_lowered x xs ns, sum_by-cons (weight_at (x ∷ xs)) zero ns))
  weight_lowered x xs (suc n ∷ ns) =
      let none : one_if (suc n == 0) ≡ 0 = ap one_if (ne_eqb (suc n) 0 (λ e. omega arith)) in
      let times_are : times 0 (suc n ∷ ns) ≡ times 0 ns = omega (arith, none, sum_by-cons (λ y. one_if (y == 0)) (suc n) ns) in
      subst (λ t. sum_by (weight_at (x ∷ xs)) (suc n ∷ ns) ≡ t * f x + sum_by (weight_at xs) (n ∷ lowered ns)) (sym times_are)
      (omega (arith, weight_lowered x xs ns, sum_by-cons (weight_at (x ∷ xs)) (suc n) ns, sum_by-cons (weight_at xs) n (lowered ns)))

  -- items whose numbers are drawn at most once weigh no more than all
  weights_le : (xs : List X) (ns : List ℕ) → ((n : ℕ) → times n ns ≤ 1) → sum_by (weight_at xs) ns ≤ sum_by f xs
  weights_le [] ns once = none ns
    where
      none : (ns : List ℕ) → sum_by (weight_at []) ns ≤ 0
      none [] = omega arith
      none (n ∷ ns) = omega (arith, none ns, sum_by-cons (weight_at []) n ns)
  weights_le (x ∷ xs) ns once =
      let rest = weights_le xs (lowered ns) (λ n. omega (arith, times_lowered n ns, once (suc n))) in
      omega (arith, rest, weight_lowered x xs ns, sum_by-cons f x xs, at_most (times 0 ns) (f x) (once 0))
    where
      at_most : (t a : ℕ) → t ≤ 1 → t * a ≤ a
      at_most t a le = ⊎_elim (λ e. subst (λ t. t * a ≤ a) (sym e) (omega arith)) (λ ne. let e : t ≡ 1 = omega arith in subst (λ t. t * a ≤ a) (sym e) (omega arith)) (cases_eq t 0)

  weight_cons : (o : Option X) (xs : List X) → sum_by f (cons_option o xs) ≡ weight o + sum_by f xs
  weight_cons None xs = omega arith
  weight_cons (Some x) xs = sum_by-cons f x xs

  weight_filter : (xs : List X) (ns : List ℕ) → sum_by f (filter_map (slice_get xs) ns) ≡ sum_by (weight_at xs) ns
  weight_filter xs [] = refl
  weight_filter xs (n ∷ ns) =
      omega (arith, weight_cons (slice_get xs n) (filter_map (slice_get xs) ns), weight_filter xs ns, sum_by-cons (weight_at xs) n ns)

  pub drawn_le : (xs : List X) (ns : List ℕ) → ((n : ℕ) → times n ns ≤ 1) → sum_by f (filter_map (slice_get xs) ns) ≤ sum_by f xs
  drawn_le xs ns once = omega (arith, weight_filter xs ns, weights_le xs ns once)

-- what each item has, each item drawn has
module _ {X : Type 0} (P : X → Type 0) where
  pub at_place : (xs : List X) (n : ℕ) (x : X) → AllByRecursion P xs → slice_get xs n ≡ Some x → P x
  at_place [] n x all e = absurd cc
  at_place (y ∷ ys) zero x all e = subst P (cc) all.0
  at_place (y ∷ ys) (suc n) x all e = at_place ys n x all.1 e

  all_cons : (o : Option X) (xs : List X) → ((x : X) → o ≡ Some x → P x) → AllByRecursion P xs → AllByRecursion P (cons_option o xs)
  all_cons None xs head all = all
  all_cons (Some x) xs head all = (head x refl, all)

  pub drawn_all : (xs : List X) (ns : List ℕ) → AllByRecursion P xs → AllByRecursion P (filter_map (slice_get xs) ns)
  drawn_all xs [] all = tt
  drawn_all xs (n ∷ ns) all = all_cons (slice_get xs n) (filter_map (slice_get xs) ns) (λ x e. at_place xs n x all e) (drawn_all xs ns all)

-- a sequence that is in some of the blocks is in the one at some place
pub place_of : (q : Sequence) (bs : List Block) → 0 < count_in q bs → (n : ℕ) × (b : Block) × (slice_get bs n ≡ Some b) × IsIn b q × (n < length bs)
place_of q [] some = absurd (omega arith)
place_of q (b ∷ bs) some =
    ⊎_elim (λ e. (0, b, refl, true_is_in q b e, omega arith))
    (λ e.
    let none : one_in q b ≡ 0 = ap one_if e in
    let rest = place_of q bs (omega (arith, some, none, sum_by-cons (one_in q) b bs)) in
    (suc rest.0, rest.1, rest.2, rest.3, omega (arith, rest.4)))
    (cases_Bool (is_in q b))

-- a list that has each number below its length once
module _ (ns : List ℕ) (each : HasEachOnce ns) where
  pub at_most_once : (n : ℕ) → times n ns ≤ 1
  at_most_once n = subst (λ t. t ≤ 1) (sym (each n)) (by_test (nat_lt n (length ns)))
    where
      by_test : (t : Bool) → (if t then 1 else 0) ≤ 1
      by_test true = omega arith
      by_test false = omega arith

  -- a number below one that was drawn was drawn once
  pub below_is_drawn : (m n : ℕ) → Contains ns m → n < m → times n ns ≡ 1
  below_is_drawn m n has lt = each n ∙ ap one_if (lt-ltb n (length ns) (omega (arith, within)))
    where
      by_test : (t : Bool) → nat_lt m (length ns) ≡ t → 0 < one_if t → m < length ns
      by_test true e some = ltb-true m (length ns) e
      by_test false e some = absurd (omega arith)

      within : m < length ns
      within = by_test (nat_lt m (length ns)) refl (subst (λ t. 0 < t) (each m) (stands ns m has))
