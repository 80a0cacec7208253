-- The two least of a list of keys in which none stands twice are the least of what the keys are and the least of the others.
use Rattle.std.proofs.Common.{◌≡◌, ℕ, zero, suc, ◌+◌, ◌<◌, ◌≤◌, ◌⊎◌, inl, inr, Bool, true, false, ◌==◌, if◌then◌else◌, min, max, List, [], ◌∷◌, get_or, Some, None, refl, sym, ap, ◌∙◌, subst, ⊎_elim, arith}
use Rattle.std.specs.List.{AllByRecursion, Contains}
use Rattle.std.proofs.lemmas.Bool.{cases_lt, eq-eqb, eqb-true, eqb-false}
use Rattle.std.proofs.lemmas.List.Elements.{Contains-push, Contains-append_left, Contains-append_right, Contains-append_cases}
use Rattle.std.proofs.lemmas.List.Sums.{sum_by-cons, get_or-le-sum_by}
use Rattle.definitions.specs.answers.FirstTwo.{AreLeastTwo}
use Rattle.race_words.specs.declared.ends.Ends.{Ends}
use Rattle.race_words.specs.Keys.{no_key, with_key, two_least}
use Rattle.race_words.specs.Sound.{times}
use Rattle.block_visits.specs.Apart.{AreApart, key_if_any}
use Rattle.block_visits.proofs.Counting.{one_if}

-- what a list has stands in it at least once
pub stands : (ns : List ℕ) (n : ℕ) → Contains ns n → 0 < times n ns
stands ns n has =
    let one : one_if (get_or ns has.0 n == n) ≡ 1 = ap one_if (eq-eqb (get_or ns has.0 n) n has.2) in
    omega (arith, one, get_or-le-sum_by (λ y. one_if (y == n)) ns has.0 n has.1)

pub contains_here : (k : ℕ) (ks : List ℕ) → Contains (k ∷ ks) k
contains_here k ks = Contains-append_left (k ∷ []) ks k (Contains-push [] k)

pub contains_later : (k n : ℕ) (ks : List ℕ) → Contains ks n → Contains (k ∷ ks) n
contains_later k n ks has = Contains-append_right (k ∷ []) ks n has

pub contains_cases : (k n : ℕ) (ks : List ℕ) → Contains (k ∷ ks) n → (k ≡ n) ⊎ Contains ks n
contains_cases k n ks has = ⊎_elim (λ first. inl (only k n first)) inr (Contains-append_cases (k ∷ []) ks n has)
  where
    only : (k n : ℕ) → Contains (k ∷ []) n → k ≡ n
    only k n has = at has.0 has.1 has.2
      where
        at : (i : ℕ) → i < 1 → get_or (k ∷ []) i n ≡ n → k ≡ n
        at zero lt e = e
        at (suc i) lt e = absurd (omega arith)

-- how the two least of a list stand to it
pub record AreEnds (ks : List ℕ) (e : Ends) : Type 0 where
  pub order : e.least ≤ e.second
  pub top : e.second ≤ no_key
  pub least : (e.least ≡ no_key) ⊎ Contains ks e.least
  pub second : (e.second ≡ no_key) ⊎ Contains ks e.second
  pub others : (n : ℕ) → Contains ks n → (n ≡ e.least) ⊎ (e.second ≤ n)
  pub twice : e.least ≡ e.second → (e.least ≡ no_key) ⊎ (2 ≤ times e.least ks)

times_more : (k n : ℕ) (ks : List ℕ) → times n ks ≤ times n (k ∷ ks)
times_more k n ks = omega (arith, sum_by-cons (λ y. one_if (y == n)) k ks)

times_here : (k n : ℕ) (ks : List ℕ) → k ≡ n → times n (k ∷ ks) ≡ 1 + times n ks
times_here k n ks e = let one : one_if (k == n) ≡ 1 = ap one_if (eq-eqb k n e) in omega (arith, one, sum_by-cons (λ y. one_if (y == n)) k ks)

module _ (k : ℕ) (ks : List ℕ) (e : Ends) (below : k ≤ no_key) (are : AreEnds ks e) where
  -- the ends with one key more, where these are its least and second
  with_one : (l s : ℕ) → min k e.least ≡ l → min (max k e.least) e.second ≡ s → with_key k e ≡ record { least = l; second = s }
  with_one l s first last = λ i. record { least = first i; second = last i }

  new_least : k ≤ e.least → AreEnds (k ∷ ks) (record { least = k; second = e.least })
  new_least le = record {
    order = le;
    top = omega (arith, are.order, are.top);
    least = inr (contains_here k ks);
    second = ⊎_elim inl (λ has. inr (contains_later k e.least ks has)) are.least;
    others = λ n has. ⊎_elim (λ is. inl (sym is)) (λ in_it. ⊎_elim (λ is. inr (omega (arith, is))) (λ over. inr (omega (arith, over, are.order))) (are.others n in_it)) (contains_cases k n ks has);
    twice = λ is. ⊎_elim (λ none. inl (is ∙ none)) (λ has. inr (two is has)) are.least;
  }
    where
      two : k ≡ e.least → Contains ks e.least → 2 ≤ times k (k ∷ ks)
      two is has =
          let some : 0 < times k ks = subst (λ x. 0 < times x ks) (sym is) (stands ks e.least has) in
          omega (arith, some, times_here k k ks refl)

  new_second : e.least < k → k ≤ e.second → AreEnds (k ∷ ks) (record { least = e.least; second = k })
  new_second over le = record {
    order = omega arith;
    top = below;
    least = ⊎_elim inl (λ has. inr (contains_later k e.least ks has)) are.least;
    second = inr (contains_here k ks);
    others = λ n has. ⊎_elim (λ is. inr (omega (arith, is))) (λ in_it. ⊎_elim inl (λ over. inr (omega (arith, over, le))) (are.others n in_it)) (contains_cases k n ks has);
    twice = λ is. absurd (omega (arith, is, over));
  }

  no_end : e.second < k → AreEnds (k ∷ ks) (record { least = e.least; second = e.second })
  no_end over = record {
    order = are.order;
    top = are.top;
    least = ⊎_elim inl (λ has. inr (contains_later k e.least ks has)) are.least;
    second = ⊎_elim inl (λ has. inr (contains_later k e.second ks has)) are.second;
    others = λ n has. ⊎_elim (λ is. inr (omega (arith, is, over))) (λ in_it. are.others n in_it) (contains_cases k n ks has);
    twice = λ is. ⊎_elim inl (λ two. inr (omega (arith, two, times_more k e.least ks))) (are.twice is);
  }

  one_more : AreEnds (k ∷ ks) (with_key k e)
  one_more =
      ⊎_elim
      (λ over. ⊎_elim
      (λ above. subst (AreEnds (k ∷ ks)) (sym (with_one e.least e.second (omega (arith, over)) (omega (arith, over, above)))) (no_end above))
      (λ le. subst (AreEnds (k ∷ ks)) (sym (with_one e.least k (omega (arith, over)) (omega (arith, over, le)))) (new_second over le))
      (cases_lt e.second k))
      (λ le. subst (AreEnds (k ∷ ks)) (sym (with_one k e.least (omega (arith, le)) (omega (arith, le, are.order)))) (new_least le))
      (cases_lt e.least k)

pub ends_are : (ks : List ℕ) → AllByRecursion (λ k. k ≤ no_key) ks → AreEnds ks (two_least ks)
ends_are [] below = record {
  order = omega arith;
  top = omega arith;
  least = inl refl;
  second = inl refl;
  others = λ n has. absurd (omega (arith, has.1));
  twice = λ is. inl refl;
}
ends_are (k ∷ ks) below = one_more k ks (two_least ks) below.0 (ends_are ks below.1)

-- The keys are some of those that P is true of. Each of the others is above the second.
pub least_two : (P : ℕ → Type 0) (ks : List ℕ) → ((n : ℕ) → P n → n < no_key) → AllByRecursion P ks → AreApart ks
    → ((n : ℕ) → P n → Contains ks n ⊎ ((two_least ks).second < n))
    → AreLeastTwo P (key_if_any (two_least ks).least) (key_if_any (two_least ks).second)
least_two P ks below all apart met = by_tests ((two_least ks).least == no_key) refl ((two_least ks).second == no_key) refl
  where
    weaker : (ks : List ℕ) → AllByRecursion P ks → AllByRecursion (λ k. k ≤ no_key) ks
    weaker [] all = tt
    weaker (k ∷ ks) all = (omega (arith, below k all.0), weaker ks all.1)

    l : ℕ
    l = (two_least ks).least

    s : ℕ
    s = (two_least ks).second

    are : AreEnds ks (two_least ks)
    are = ends_are ks (weaker ks all)

    P_of : (ks : List ℕ) → AllByRecursion P ks → (n : ℕ) → Contains ks n → P n
    P_of [] all n has = absurd (omega (arith, has.1))
    P_of (k ∷ ks) all n has = ⊎_elim (λ is. subst P is all.0) (λ later. P_of ks all.1 n later) (contains_cases k n ks has)

    first : ((two_least ks).least == no_key) ≡ false → P (two_least ks).least
    first e = ⊎_elim (λ none. absurd (eqb-false l no_key e none)) (λ has. P_of ks all l has) are.least

    same : ((two_least ks).least == no_key) ≡ false → l ≡ s → ⊥
    same e is = ⊎_elim (λ none. eqb-false l no_key e none) (λ two. let one = apart l in omega (arith, one, two)) (are.twice is)

    by_tests : (b : Bool) → ((two_least ks).least == no_key) ≡ b → (t : Bool) → ((two_least ks).second == no_key) ≡ t
        → AreLeastTwo P (if b then None else Some (two_least ks).least) (if t then None else Some (two_least ks).second)
    by_tests true e true d = λ n p.
        let last = eqb-true s no_key d in
        ⊎_elim (λ has. ⊎_elim (λ is. let lt = below n p in omega (arith, lt, is, eqb-true l no_key e)) (λ over. let lt = below n p in omega (arith, lt, over, last)) (are.others n has))
        (λ over. let lt = below n p in omega (arith, lt, over, last)) (met n p)
    by_tests true e false d = eqb-false s no_key d (let least = eqb-true l no_key e in omega (arith, least, are.order, are.top))
    by_tests false e true d =
        let last = eqb-true s no_key d in (
          first e,
          λ n p. ⊎_elim (λ has. ⊎_elim (λ is. is) (λ over. let lt = below n p in absurd (omega (arith, lt, over, last))) (are.others n has))
              (λ over. let lt = below n p in absurd (omega (arith, lt, over, last))) (met n p),
        )
    by_tests false e false d = (
      first e,
      ⊎_elim (λ none. absurd (eqb-false s no_key d none)) (λ has. P_of ks all s has) are.second,
      ⊎_elim (λ over. over) (λ le. absurd (same e (omega (arith, le, are.order)))) (cases_lt l s),
      λ n p. ⊎_elim (λ has. are.others n has) (λ over. inr (omega (arith, over))) (met n p),
    )
