-- The cheapest of some things: one of them, which costs as little as the least of their costs, and before which none does.
use Rattle.std.proofs.Common.{◌≡◌, ◌≢◌, ℕ, zero, suc, ◌+◌, ◌<◌, ◌≤◌, ◌⊎◌, inl, inr, Bool, true, false, ◌==◌, if◌then◌else◌, List, [], ◌∷◌, map, filter, fold, find, min, Some, None, unwrap_or, refl, sym, ap, ◌∙◌, subst, arith, eqb-true, eq-eqb}
use Rattle.std.specs.List.{range_with_len}
use Rattle.std.proofs.lemmas.Bool.{cases_order, cases_lt, eqb-false}
use Rattle.definitions.specs.heard.Costs.{least}
use Rattle.formats.specs.Heard.{cheapest, cost_of}

-- what is found at the first thing that passes, and past one that doesn't
found_here : {A : Type 0} (test : A → Bool) (x : A) (xs : List A) → test x ≡ true → find test (x ∷ xs) ≡ Some x
found_here test x xs e = ap (λ b. if b then Some x else find test xs) e

found_past : {A : Type 0} (test : A → Bool) (x : A) (xs : List A) → test x ≡ false → find test (x ∷ xs) ≡ find test xs
found_past test x xs e = ap (λ b. if b then Some x else find test xs) e

-- something is found that costs this much
abbrev IsFound : {A : Type 0} → (A → ℕ) → ℕ → List A → Type 0
IsFound {A = A} cost l xs = (y : A) × (find (λ x. cost x == l) xs ≡ Some y) × (cost y ≡ l)

here : {A : Type 0} (cost : A → ℕ) (l : ℕ) (x : A) (xs : List A) → cost x ≡ l → IsFound cost l (x ∷ xs)
here cost l x xs e = (x, found_here (λ y. cost y == l) x xs (eq-eqb (cost x) l e), e)

later : {A : Type 0} (cost : A → ℕ) (l : ℕ) (x : A) (xs : List A) → IsFound cost l xs → IsFound cost l (x ∷ xs)
later cost l x xs f = by_test (cost x == l) refl
  where
    by_test : (b : Bool) → (cost x == l) ≡ b → IsFound cost l (x ∷ xs)
    by_test true e = here cost l x xs (eqb-true (cost x) l e)
    by_test false e = (f.0, found_past (λ y. cost y == l) x xs e ∙ f.1, f.2)

either_is_min : (b c l : ℕ) → min b c ≡ l → (b ≡ l) ⊎ (c ≡ l)
either_is_min b c l e = elim (cases_lt b c) [ inl less ↦ inl (omega arith) | inr more ↦ inr (omega arith) ]

-- the least of a number and some costs is that number, or it is found
found_in : {A : Type 0} (cost : A → ℕ) (l b : ℕ) (xs : List A) → fold min b (map cost xs) ≡ l → (b ≡ l) ⊎ IsFound cost l xs
found_in cost l b [] e = inl e
found_in cost l b (x ∷ xs) e = elim (found_in cost l (min b (cost x)) xs e) [
  | inl same ↦ elim (either_is_min b (cost x) l same) [ inl first ↦ inl first | inr this ↦ inr (here cost l x xs this) ]
  | inr found ↦ inr (later cost l x xs found)
]

-- of some things the cheapest is found
pub cheapest_found : {A : Type 0} (cost : A → ℕ) (x : A) (xs : List A) → IsFound cost (fold min (cost x) (map cost xs)) (x ∷ xs)
cheapest_found cost x xs = elim (found_in cost (fold min (cost x) (map cost xs)) (cost x) xs refl) [
  | inl same ↦ here cost (fold min (cost x) (map cost xs)) x xs same
  | inr found ↦ later cost (fold min (cost x) (map cost xs)) x xs found
]

-- it costs what the least of the costs is
pub cheapest_costs : {A : Type 0} (cost : A → ℕ) (xs : List A) → cost_of cost (cheapest cost xs) ≡ unwrap_or (least (map cost xs)) 0
cheapest_costs cost [] = refl
cheapest_costs cost (x ∷ xs) = let f = cheapest_found cost x xs in ap (cost_of cost) f.1 ∙ f.2

-- there is one where there are things
pub some_cheapest : {A : Type 0} (cost : A → ℕ) (xs : List A) → xs ≢ [] → cheapest cost xs ≢ None
some_cheapest cost [] some e = some refl
some_cheapest cost (x ∷ xs) some e = absurd (let found = (cheapest_found cost x xs).1 in cc)

-- what is found in a filtered list passes the filter
pub found_passes : {A : Type 0} (test keep : A → Bool) (xs : List A) (y : A) → find test (filter keep xs) ≡ Some y → keep y ≡ true
found_passes test keep [] y e = absurd cc
found_passes test keep (x ∷ xs) y e = by_kept (keep x) refl (found_passes test keep xs y) e
  where
    by_test : (b : Bool) → keep x ≡ true → (find test (filter keep xs) ≡ Some y → keep y ≡ true) → (if b then Some x else find test (filter keep xs)) ≡ Some y → keep y ≡ true
    by_test true kept behind g = let same : x ≡ y = cc in subst (λ z. keep z ≡ true) same kept
    by_test false kept behind g = behind g

    by_kept : (b : Bool) → keep x ≡ b → (find test (filter keep xs) ≡ Some y → keep y ≡ true) → find test (if b then x ∷ filter keep xs else filter keep xs) ≡ Some y → keep y ≡ true
    by_kept false out behind f = behind f
    by_kept true kept behind f = by_test (test x) kept behind f

-- what is found among n numbers from a on is one of them, and none before it passes
abbrev IsFirst : (ℕ → Bool) → ℕ → ℕ → ℕ → Type 0
IsFirst test a n y = (a ≤ y) × (y < a + n) × ((x : ℕ) → a ≤ x → x < y → test x ≡ false)

first_in_range : (test : ℕ → Bool) (a n y : ℕ) → find test (range_with_len a n) ≡ Some y → IsFirst test a n y
first_in_range test a zero y e = absurd cc
first_in_range test a (suc n) y e = by_test (test a) refl (first_in_range test (a + 1) n y) e
  where
    by_test : (b : Bool) → test a ≡ b → (find test (range_with_len (a + 1) n) ≡ Some y → IsFirst test (a + 1) n y)
        → (if b then Some a else find test (range_with_len (a + 1) n)) ≡ Some y → IsFirst test a (suc n) y
    by_test true passes behind f =
        let same : a ≡ y = cc in
        (omega (arith, same), omega (arith, same), λ x from below. absurd (omega (arith, same, from, below)))
    by_test false fails behind f =
        let rest = behind f in (
          omega (arith, rest.0),
          omega (arith, rest.1),
          λ x from below. elim (cases_order x a) [
            | inl same ↦ subst (λ z. test z ≡ false) (sym same) fails
            | inr apart ↦ rest.2 x (elim apart [ inl less ↦ absurd (omega arith) | inr more ↦ omega arith ]) below
          ],
        )

-- the least of a number and of what n numbers from a on cost is above none of these
abbrev IsBelow : (ℕ → ℕ) → ℕ → ℕ → ℕ → ℕ → Type 0
IsBelow costs a n b l = (l ≤ b) × ((x : ℕ) → a ≤ x → x < a + n → l ≤ costs x)

least_in_range : (costs : ℕ → ℕ) (a n b : ℕ) → IsBelow costs a n b (fold min b (map costs (range_with_len a n)))
least_in_range costs a zero b = (omega arith, λ x from below. absurd (omega arith))
least_in_range costs a (suc n) b =
    let rest = least_in_range costs (a + 1) n (min b (costs a)) in (
      omega (arith, rest.0),
      λ x from below. elim (cases_order x a) [
        | inl same ↦ subst (λ z. fold min (min b (costs a)) (map costs (range_with_len (a + 1) n)) ≤ costs z) (sym same) (omega (arith, rest.0))
        | inr apart ↦ rest.1 x (elim apart [ inl less ↦ absurd (omega arith) | inr more ↦ omega arith ]) (omega arith)
      ],
    )

-- the cheapest of the numbers below n is one of them, none costs less, and each before it costs more
abbrev pub IsBest : (ℕ → ℕ) → ℕ → ℕ → Type 0
IsBest costs n y = (y < n) × ((x : ℕ) → x < n → costs y ≤ costs x) × ((x : ℕ) → x < y → costs y < costs x)

pub cheapest_is_best : (costs : ℕ → ℕ) (m : ℕ) → IsBest costs (suc m) (unwrap_or (cheapest costs (range_with_len 0 (suc m))) 0)
cheapest_is_best costs m = subst (IsBest costs (suc m)) (sym (ap (λ o. unwrap_or o 0) found.1)) best
  where
    l : ℕ
    l = fold min (costs 0) (map costs (range_with_len 1 m))

    found : IsFound costs l (0 ∷ range_with_len 1 m)
    found = cheapest_found costs 0 (range_with_len 1 m)

    first : IsFirst (λ x. costs x == l) 0 (suc m) found.0
    first = first_in_range (λ x. costs x == l) 0 (suc m) found.0 found.1

    low : IsBelow costs 1 m (costs 0) l
    low = least_in_range costs 1 m (costs 0)

    at_least : (x : ℕ) → x < suc m → l ≤ costs x
    at_least zero lt = low.0
    at_least (suc x) lt = low.1 (suc x) (omega arith) (omega arith)

    best : IsBest costs (suc m) found.0
    best = (
      omega (arith, first.1),
      λ x lt. omega (arith, found.2, at_least x lt),
      λ x lt. elim (cases_order l (costs x)) [
        | inl same ↦ absurd (eqb-false (costs x) l (first.2 x (omega arith) lt) (sym same))
        | inr apart ↦ elim apart [
          | inl less ↦ omega (arith, found.2, less)
          | inr more ↦ absurd (omega (arith, more, at_least x (omega (arith, first.1, lt))))
        ]
      ],
    )
