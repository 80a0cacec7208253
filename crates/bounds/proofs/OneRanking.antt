-- Blocks with first sequences of their own have one ranking.
use Rattle.std.proofs.Common.{◌≡◌, ◌≢◌, ℕ, ◌+◌, ◌*◌, ◌<◌, ◌≤◌, ◌^◌, ◌⊎◌, inl, inr, Bool, true, false, ◌==◌, if◌then◌else◌, List, [], ◌∷◌, sum_by, Option, Some, None, refl, sym, ap, ◌∙◌, subst, arith}
use Rattle.std.specs.List.{AllByRecursion}
use Rattle.std.specs.List.Sorted.{IsPermutation}
use Rattle.std.proofs.lemmas.Bool.{eqb-true, eq-eqb}
use Rattle.std.proofs.lemmas.List.Elements.{All-from_recursion, recursion_from_All}
use Rattle.std.proofs.lemmas.List.Sorted.{All-permutation, sum_by-IsPermutation}
use Rattle.std.proofs.lemmas.List.Sums.{sum_by-cons}
use Rattle.signal_base.specs.declared.window.Window.{Window}
use Rattle.definitions.specs.declared.block.Block.{Block}
use Rattle.definitions.specs.time.Calendar.{century_minutes}
use Rattle.definitions.specs.sequences.Keys.{index_of}
use Rattle.definitions.specs.heard.Costs.{Costs}
use Rattle.definitions.specs.answers.Blocks.{IsBlock, first_of}
use Rattle.definitions.proofs.BoundLaws.{bounds_one}
use Rattle.bounds.specs.Ranking.{HaveOwnFirsts, IsBefore, IsRanked, StandsBefore}

abbrev place : Block → ℕ
place b = index_of (first_of b)

-- the block is one of the list
In : Block → List Block → Type 0
In a [] = ⊥
In a (b ∷ bs) = (a ≡ b) ⊎ In a bs

holds_of : (P : Block → Type 0) (bs : List Block) → AllByRecursion P bs → (a : Block) → In a bs → P a
unfolding In
holds_of P [] all a none = absurd none
holds_of P (b ∷ bs) all a (inl is) = subst P (sym is) all.0
holds_of P (b ∷ bs) all a (inr later) = holds_of P bs all.1 a later

pub all_more : (P Q : Block → Type 0) → ((b : Block) → P b → Q b) → (bs : List Block) → AllByRecursion P bs → AllByRecursion Q bs
all_more P Q more [] all = tt
all_more P Q more (b ∷ bs) all = (more b all.0, all_more P Q more bs all.1)

each_in : (bs : List Block) → AllByRecursion (λ a. In a bs) bs
unfolding In
each_in [] = tt
each_in (b ∷ bs) = (inl refl, all_more (λ a. In a bs) (λ a. In a (b ∷ bs)) (λ a h. inr h) bs (each_in bs))

-- of such blocks, two with the same first sequence are one
same_first : (bs : List Block) → HaveOwnFirsts bs → (a b : Block) → In a bs → In b bs → place a ≡ place b → a ≡ b
unfolding In
same_first [] own a b none _ e = absurd none
same_first (c ∷ cs) own a b (inl p) (inl q) e = p ∙ sym q
same_first (c ∷ cs) own a b (inl p) (inr q) e = absurd (holds_of (λ d. place c ≢ place d) cs own.0 b q (ap place (sym p) ∙ e))
same_first (c ∷ cs) own a b (inr p) (inl q) e = absurd (holds_of (λ d. place c ≢ place d) cs own.0 a p (ap place (sym q) ∙ sym e))
same_first (c ∷ cs) own a b (inr p) (inr q) e = same_first cs own.1 a b p q e

-- one for each block that begins where x does
counts : Block → Block → ℕ
counts x b = if place b == place x then 1 else 0

counts-one : (x : Block) → counts x x ≡ 1
unfolding counts
counts-one x = ap (λ t. if t then 1 else 0) (eq-eqb (place x) (place x) refl)

counted : (x b : Block) → (place b ≡ place x) ⊎ (counts x b ≡ 0)
unfolding counts
counted x b = by_test (place b == place x) refl
  where
    by_test : (t : Bool) → (place b == place x) ≡ t → (place b ≡ place x) ⊎ (◌≡◌ {A = ℕ} (if t then 1 else 0) 0)
    by_test true e = inl (eqb-true (place b) (place x) e)
    by_test false e = inr refl

-- where some are counted, one of the blocks begins where x does
some_counted : (x : Block) (bs : List Block) → 0 < sum_by (counts x) bs → (b : Block) × In b bs × (place b ≡ place x)
unfolding In
some_counted x [] some = absurd (omega (arith, some))
some_counted x (b ∷ bs) some = by_first (λ later. some_counted x bs later) (counted x b)
  where
    by_first : (0 < sum_by (counts x) bs → (c : Block) × In c bs × (place c ≡ place x)) → (place b ≡ place x) ⊎ (counts x b ≡ 0)
        → (c : Block) × In c (b ∷ bs) × (place c ≡ place x)
    by_first among (inl e) = (b, inl refl, e)
    by_first among (inr none) =
        let later = among (omega (arith, some, sum_by-cons (counts x) b bs, none)) in
        (later.0, inr later.1, later.2)

-- all sums over the blocks are the same
abbrev Same : List Block → List Block → Type 0
Same xs ys = (f : Block → ℕ) → sum_by f xs ≡ sum_by f ys

same_rest : (x : Block) (xs ys : List Block) → Same (x ∷ xs) (x ∷ ys) → Same xs ys
same_rest x xs ys same f = omega (arith, same f, sum_by-cons f x xs, sum_by-cons f x ys)

-- two blocks that stand before each other begin alike
stand_alike : (m n : Option ℕ) (b c : Block) → place b < 2 ^ 33 → place c < 2 ^ 33 → StandsBefore m b n c → StandsBefore n c m b → place b ≡ place c
stand_alike (Some m) (Some n) b c lt gt le ge = omega (arith, lt, gt, le, ge)
stand_alike (Some m) None b c lt gt le ge = absurd ge
stand_alike None (Some n) b c lt gt le ge = absurd le
stand_alike None None b c lt gt le ge = omega (arith, le, ge)

module _ (costs : Costs) (window : Window) (items : List Block) (own : HaveOwnFirsts items) (small : AllByRecursion (λ b. place b < 2 ^ 33) items) where
  abbrev AreOf : List Block → Type 0
  AreOf bs = AllByRecursion (λ a. In a items) bs

  before_each_other : (b c : Block) → In b items → In c items → IsBefore costs window b c → IsBefore costs window c b → b ≡ c
  before_each_other b c b_in c_in le ge =
      let first = bounds_one costs window b le.bound ge.other le.is_bound ge.is_other in
      let other = bounds_one costs window c le.other ge.bound le.is_other ge.is_bound in
      let back = subst (λ m. StandsBefore le.other c m b) (sym first) (subst (λ n. StandsBefore n c ge.other b) (sym other) ge.stands) in
      same_first items own b c b_in c_in
      (stand_alike le.bound le.other b c (holds_of (λ b. place b < 2 ^ 33) items small b b_in) (holds_of (λ b. place b < 2 ^ 33) items small c c_in) le.stands back)

  -- the first block of one list is in the other
  first_in : (x : Block) (xs ys : List Block) → AreOf (x ∷ xs) → AreOf ys → Same (x ∷ xs) ys → In x ys
  first_in x xs ys of_xs of_ys same =
      let found = some_counted x ys (omega (arith, same (counts x), sum_by-cons (counts x) x xs, counts-one x)) in
      subst (λ b. In b ys) (same_first items own found.0 x (holds_of (λ a. In a items) ys of_ys found.0 found.1) of_xs.0 found.2) found.1

  one_first : (x y : Block) (xs ys : List Block) → AreOf (x ∷ xs) → AreOf (y ∷ ys) → IsRanked costs window (x ∷ xs) → IsRanked costs window (y ∷ ys)
      → In x (y ∷ ys) → In y (x ∷ xs) → x ≡ y
  unfolding In
  one_first x y xs ys of_xs of_ys ranked others (inl e) _ = e
  one_first x y xs ys of_xs of_ys ranked others (inr _) (inl e) = sym e
  one_first x y xs ys of_xs of_ys ranked others (inr x_in) (inr y_in) =
      before_each_other x y of_xs.0 of_ys.0
      (holds_of (IsBefore costs window x) xs ranked.0 y y_in)
      (holds_of (IsBefore costs window y) ys others.0 x x_in)

  one_list : (xs ys : List Block) → AreOf xs → AreOf ys → Same xs ys → IsRanked costs window xs → IsRanked costs window ys → xs ≡ ys
  one_list [] [] of_xs of_ys same ranked others = refl
  one_list [] (y ∷ ys) of_xs of_ys same ranked others = absurd (omega (arith, same (λ _. 1), sum_by-cons (λ (_ : Block). 1) y ys))
  one_list (x ∷ xs) [] of_xs of_ys same ranked others = absurd (omega (arith, same (λ _. 1), sum_by-cons (λ (_ : Block). 1) x xs))
  one_list (x ∷ xs) (y ∷ ys) of_xs of_ys same ranked others =
      let first = one_first x y xs ys of_xs of_ys ranked others (first_in x xs (y ∷ ys) of_xs of_ys same) (first_in y ys (x ∷ xs) of_ys of_xs (λ f. sym (same f))) in
      let rest = one_list xs ys of_xs.1 of_ys.1 (same_rest x xs ys (λ f. same f ∙ ap (λ b. sum_by f (b ∷ ys)) (sym first))) ranked.1 others.1 in
      cc

-- the first sequence of a block of a window has a small place
place_by : (announced : Bool) (second first : ℕ) → second < (if announced then 61 else 60) → first < century_minutes
    → ((if announced then 61 else 0) + second) * century_minutes + first < 2 ^ 33
place_by true second first early lt = omega (arith, early, lt)
place_by false second first early lt = omega (arith, early, lt)

pub place_small : (window : Window) (b : Block) → window.to ≤ century_minutes → IsBlock window b → index_of (first_of b) < 2 ^ 33
place_small window b end is = place_by b.announced b.second b.lo is.second (omega (arith, end, is.not_empty, is.ends))

-- two rankings of the same blocks are one
pub one_ranking : (costs : Costs) (window : Window) (items xs ys : List Block) → HaveOwnFirsts items → AllByRecursion (λ b. index_of (first_of b) < 2 ^ 33) items
    → IsPermutation items xs → IsPermutation items ys → IsRanked costs window xs → IsRanked costs window ys → xs ≡ ys
one_ranking costs window items xs ys own small moved others ranked rankeds =
    one_list costs window items own small xs ys (are_of xs moved) (are_of ys others)
    (λ f. sum_by-IsPermutation f items xs moved ∙ sym (sum_by-IsPermutation f items ys others)) ranked rankeds
  where
    are_of : (bs : List Block) → IsPermutation items bs → AllByRecursion (λ a. In a items) bs
    are_of bs moves = recursion_from_All _ _ (All-permutation (λ a. In a items) items bs moves (All-from_recursion _ _ (each_in items)))
