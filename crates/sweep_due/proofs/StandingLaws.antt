-- What the first two sequences are among keys at offsets, whatever keys these are; and that they stay known, a key at a time.
use Rattle.std.proofs.Common.{◌≡◌, ◌≢◌, ℕ, ◌%◌, ◌^◌, ◌<◌, ◌≤◌, ◌⊎◌, inl, inr, ◌==◌, ◌&&◌, Bool, true, false, nat_lt, if◌then◌else◌, Option, Some, None, min, refl, sym, ap, ◌∙◌, subst, arith}
use Rattle.std.proofs.Math.Nat.{min-eq_left, min-eq_right}
use Rattle.std.proofs.lemmas.Bool.{and_cases, and_parts, cases_eq, cases_lt, eqb-false, eqb-true, ltb-false, ltb-true}
use Rattle.sweep_due.specs.declared.standing.Placed.{Placed}
use Rattle.sweep_due.specs.declared.standing.Standing.{Standing}
use Rattle.sweep_due.specs.Standings.{beside, is_same_sequence, lesser_of, placed_among, sooner}

-- keys of one sequence have one index
abbrev pub index_in : ℕ → ℕ
index_in key = key % 2 ^ 33

-- a key at an offset isn't before the first
abbrev pub IsNotBefore : Placed → ℕ → ℕ → Type 0
IsNotBefore p n j = (p.key ≤ n) × (p.key ≡ n → p.offset ≤ j)

-- this is the least key at the least offset, and this the least key of another sequence, as far as there are any
abbrev pub AreFirst : (ℕ → ℕ → Type 0) → Option Placed → Option ℕ → Type 0
AreFirst P None second = (second ≡ None) × ((n j : ℕ) → ¬ (P n j))
AreFirst P (Some p) None = P p.key p.offset × ((n j : ℕ) → P n j → IsNotBefore p n j × (index_in n ≡ index_in p.key))
AreFirst P (Some p) (Some l) =
    P p.key p.offset × ((j : ℕ) × P l j) × (index_in l ≢ index_in p.key) × (p.key < l)
    × ((n j : ℕ) → P n j → IsNotBefore p n j × ((index_in n ≡ index_in p.key) ⊎ (l ≤ n)))

abbrev pub IsStanding : (ℕ → ℕ → Type 0) → Standing → Type 0
IsStanding P s = AreFirst P s.first s.second

-- a key is beyond the first two
abbrev pub IsBeyond : Option Placed → Option ℕ → ℕ → Type 0
IsBeyond None second n = ⊥
IsBeyond (Some p) None n = ⊥
IsBeyond (Some p) (Some l) n = l ≤ n

-- one key more
abbrev pub One_more : (ℕ → ℕ → Type 0) → Placed → ℕ → ℕ → Type 0
One_more P x n j = P n j ⊎ ((n ≡ x.key) × (j ≡ x.offset))

-- what is beyond changes nothing
module _ (P Q : ℕ → ℕ → Type 0) (more : (n j : ℕ) → P n j → Q n j) where
  pub beyond_changes_nothing : (first : Option Placed) (second : Option ℕ) → AreFirst P first second
      → ((n j : ℕ) → Q n j → P n j ⊎ IsBeyond first second n) → AreFirst Q first second
  beyond_changes_nothing None second is rest =
      (is.0, λ n j q. elim (rest n j q) [ inl p ↦ is.1 n j p | inr never ↦ never ])
  beyond_changes_nothing (Some p) None is rest =
      (more p.key p.offset is.0, λ n j q. elim (rest n j q) [ inl old ↦ is.1 n j old | inr never ↦ absurd never ])
  beyond_changes_nothing (Some p) (Some l) is rest = (
    more p.key p.offset is.0,
    (is.1.0, more l is.1.0 is.1.1),
    is.2,
    is.3,
    λ n j q. elim (rest n j q) [
      | inl old ↦ is.4 n j old
      | inr above ↦ let lt = is.3 in ((omega (arith, lt, above), λ e. absurd (omega (arith, lt, above, e))), inr above)
    ],
  )

-- where two keys of different sequences are known, what isn't below them is beyond
pub beyond_two : (P : ℕ → ℕ → Type 0) (first : Option Placed) (second : Option ℕ) → AreFirst P first second
    → (a i b j n : ℕ) → P a i → P b j → index_in a ≢ index_in b → a ≤ n → b ≤ n → IsBeyond first second n
beyond_two P None second is a i b j n p q apart le also = is.1 a i p
beyond_two P (Some x) None is a i b j n p q apart le also = apart ((is.1 a i p).1 ∙ sym (is.1 b j q).1)
beyond_two P (Some x) (Some l) is a i b j n p q apart le also =
    elim (is.4 a i p).1 [
      | inr above ↦ omega (arith, above, le)
      | inl same ↦ elim (is.4 b j q).1 [ inr above ↦ omega (arith, above, also) | inl too ↦ absurd (apart (same ∙ sym too)) ]
    ]

-- which of two keys of one sequence is kept
abbrev Keeps : Placed → Placed → Placed → Type 0
Keeps p x r = IsNotBefore r p.key p.offset × IsNotBefore r x.key x.offset × ((r ≡ p) ⊎ (r ≡ x))

itself : (p : Placed) → IsNotBefore p p.key p.offset
itself p = (omega arith, λ e. omega arith)

keeps_other : (p x : Placed) → IsNotBefore x p.key p.offset → Keeps p x x
keeps_other p x is = (is, itself x, inr refl)

keeps_first : (p x : Placed) → IsNotBefore p x.key x.offset → Keeps p x p
keeps_first p x is = (itself p, is, inl refl)

sooner_keeps : (p x : Placed) → Keeps p x (sooner p x)
sooner_keeps p x = by_key (nat_lt x.key p.key) refl
  where
    by_offset : (b : Bool) → (x.key == p.key && nat_lt x.offset p.offset) ≡ b → p.key ≤ x.key → Keeps p x (if x.key == p.key && nat_lt x.offset p.offset then x else p)
    by_offset true e le =
        let both = and_parts (x.key == p.key) (nat_lt x.offset p.offset) e in
        let same = eqb-true x.key p.key both.0 in
        let before = ltb-true x.offset p.offset both.1 in
        rw e (keeps_other p x (omega (arith, same), λ f. omega (arith, before)))
    by_offset false e le = rw e (keeps_first p x (le, λ f. behind (and_cases (x.key == p.key) (nat_lt x.offset p.offset) e) f))
      where
        behind : ((x.key == p.key) ≡ false) ⊎ (nat_lt x.offset p.offset ≡ false) → p.key ≡ x.key → p.offset ≤ x.offset
        behind (inl apart) f = absurd (eqb-false x.key p.key apart (sym f))
        behind (inr later) f = ltb-false x.offset p.offset later

    by_key : (a : Bool) → nat_lt x.key p.key ≡ a → Keeps p x (sooner p x)
    by_key true e = let lt = ltb-true _ _ e in rw e (keeps_other p x (omega (arith, lt), λ f. absurd (omega (arith, lt, f))))
    by_key false e = rw e (by_offset (x.key == p.key && nat_lt x.offset p.offset) refl (ltb-false _ _ e))

-- what isn't before the one isn't before what is kept
passes : (r p : Placed) (n j : ℕ) → IsNotBefore r p.key p.offset → IsNotBefore p n j → IsNotBefore r n j
passes r p n j is also =
    (omega (arith, is.0, also.0), λ e. let same : p.key ≡ n = omega (arith, is.0, also.0, e) in omega (arith, is.1 (e ∙ sym same), also.1 same))

module _ (P : ℕ → ℕ → Type 0) where
  first_in : (p : Placed) (second : Option ℕ) → AreFirst P (Some p) second → P p.key p.offset × ((n j : ℕ) → P n j → IsNotBefore p n j)
  first_in p None is = (is.0, λ n j q. (is.1 n j q).0)
  first_in p (Some l) is = (is.0, λ n j q. (is.4 n j q).0)

  module _ (p x : Placed) where
    known : P p.key p.offset → (r : Placed) → (r ≡ p) ⊎ (r ≡ x) → One_more P x r.key r.offset
    known is r (inl e) = inl (subst (λ (q : Placed). P q.key q.offset) (sym e) is)
    known is r (inr e) = inr (ap (λ (q : Placed). q.key) e, ap (λ (q : Placed). q.offset) e)

    index_kept : index_in p.key ≡ index_in x.key → (r : Placed) → (r ≡ p) ⊎ (r ≡ x) → index_in p.key ≡ index_in r.key
    index_kept same r (inl e) = ap (λ (q : Placed). index_in q.key) (sym e)
    index_kept same r (inr e) = same ∙ ap (λ (q : Placed). index_in q.key) (sym e)

    new_behind : (r : Placed) → IsNotBefore r x.key x.offset → (n j : ℕ) → n ≡ x.key → j ≡ x.offset → IsNotBefore r n j
    new_behind r is n j e f = (omega (arith, is.0, e), λ g. omega (arith, is.1 (g ∙ e), f))

    -- it is of the first sequence
    of_the_first : index_in p.key ≡ index_in x.key → (r : Placed) → Keeps p x r → (second : Option ℕ) → AreFirst P (Some p) second → AreFirst (One_more P x) (Some r) second
    of_the_first same r keeps None is = (
      known is.0 r keeps.2,
      λ n j q. elim q [
        | inl old ↦ let h = is.1 n j old in (passes r p n j keeps.0 h.0, h.1 ∙ index_kept same r keeps.2)
        | inr new ↦ (new_behind r keeps.1 n j new.0 new.1, ap index_in new.0 ∙ sym same ∙ index_kept same r keeps.2)
      ],
    )
    of_the_first same r keeps (Some l) is = (
      known is.0 r keeps.2,
      (is.1.0, inl is.1.1),
      (λ e. is.2 (e ∙ sym (index_kept same r keeps.2))),
      omega (arith, is.3, keeps.0.0),
      λ n j q. elim q [
        | inl old ↦ let h = is.4 n j old in
            (passes r p n j keeps.0 h.0, elim h.1 [ inl e ↦ inl (e ∙ index_kept same r keeps.2) | inr above ↦ inr above ])
        | inr new ↦ (new_behind r keeps.1 n j new.0 new.1, inl (ap index_in new.0 ∙ sym same ∙ index_kept same r keeps.2))
      ],
    )

    -- it is of another sequence, and before the first
    before_the_first : index_in p.key ≢ index_in x.key → x.key < p.key → (second : Option ℕ) → AreFirst P (Some p) second → AreFirst (One_more P x) (Some x) (Some p.key)
    before_the_first apart lt second is =
        let h = first_in p second is in (
          inr (refl, refl),
          (p.offset, inl h.0),
          apart,
          lt,
          λ n j q. elim q [
            | inl old ↦ let le = (h.1 n j old).0 in ((omega (arith, lt, le), λ e. absurd (omega (arith, lt, le, e))), inr le)
            | inr new ↦ (new_behind x (itself x) n j new.0 new.1, inl (ap index_in new.0))
          ],
        )

    -- it is of another sequence, and behind the first
    behind : p.key < x.key → IsNotBefore p x.key x.offset
    behind lt = (omega (arith, lt), λ e. absurd (omega (arith, lt, e)))

    second_now : index_in p.key ≢ index_in x.key → p.key < x.key → AreFirst P (Some p) None → AreFirst (One_more P x) (Some p) (Some x.key)
    second_now apart lt is = (
      inl is.0,
      (x.offset, inr (refl, refl)),
      (λ e. apart (sym e)),
      lt,
      λ n j q. elim q [
        | inl old ↦ let h = is.1 n j old in (h.0, inl h.1)
        | inr new ↦ (new_behind p (behind lt) n j new.0 new.1, inr (omega (arith, new.0)))
      ],
    )

    second_stays : p.key < x.key → (l : ℕ) → l ≤ x.key → AreFirst P (Some p) (Some l) → AreFirst (One_more P x) (Some p) (Some l)
    second_stays lt l le is = (
      inl is.0,
      (is.1.0, inl is.1.1),
      is.2,
      is.3,
      λ n j q. elim q [
        | inl old ↦ is.4 n j old
        | inr new ↦ (new_behind p (behind lt) n j new.0 new.1, inr (omega (arith, new.0, le)))
      ],
    )

    second_falls : index_in p.key ≢ index_in x.key → p.key < x.key → (l : ℕ) → x.key ≤ l → AreFirst P (Some p) (Some l) → AreFirst (One_more P x) (Some p) (Some x.key)
    second_falls apart lt l le is = (
      inl is.0,
      (x.offset, inr (refl, refl)),
      (λ e. apart (sym e)),
      lt,
      λ n j q. elim q [
        | inl old ↦ let h = is.4 n j old in (h.0, elim h.1 [ inl e ↦ inl e | inr above ↦ inr (omega (arith, above, le)) ])
        | inr new ↦ (new_behind p (behind lt) n j new.0 new.1, inr (omega (arith, new.0)))
      ],
    )

    behind_the_first : index_in p.key ≢ index_in x.key → p.key ≤ x.key → (second : Option ℕ) → AreFirst P (Some p) second
        → AreFirst (One_more P x) (Some p) (Some (lesser_of second x.key))
    behind_the_first apart le None is = second_now apart (by_order (cases_eq p.key x.key)) is
      where
        by_order : (p.key ≡ x.key) ⊎ (p.key ≢ x.key) → p.key < x.key
        by_order (inl e) = absurd (apart (ap index_in e))
        by_order (inr other) = omega (arith, le, other)
    behind_the_first apart le (Some l) is = by_second (cases_lt l x.key)
      where
        by_order : (p.key ≡ x.key) ⊎ (p.key ≢ x.key) → p.key < x.key
        by_order (inl e) = absurd (apart (ap index_in e))
        by_order (inr other) = omega (arith, le, other)

        by_second : (l < x.key) ⊎ (x.key ≤ l) → AreFirst (One_more P x) (Some p) (Some (min l x.key))
        by_second (inl lt) =
            let small : l ≤ x.key = omega (arith, lt) in
            subst (λ (m : ℕ). AreFirst (One_more P x) (Some p) (Some m)) (sym (min-eq_left small)) (second_stays (by_order (cases_eq p.key x.key)) l small is)
        by_second (inr ge) =
            subst (λ (m : ℕ). AreFirst (One_more P x) (Some p) (Some m)) (sym (min-eq_right ge)) (second_falls apart (by_order (cases_eq p.key x.key)) l ge is)

    stands_beside : (second : Option ℕ) → AreFirst P (Some p) second → IsStanding (One_more P x) (beside p second x)
    stands_beside second is = by_sequence (is_same_sequence p.key x.key) refl
      where
        by_key : (b : Bool) → nat_lt x.key p.key ≡ b → index_in p.key ≢ index_in x.key
            → IsStanding (One_more P x) (if nat_lt x.key p.key then record { first = Some x; second = Some p.key } else record { first = Some p; second = Some (lesser_of second x.key) })
        by_key true e apart = rw e (before_the_first apart (ltb-true _ _ e) second is)
        by_key false e apart = rw e (behind_the_first apart (ltb-false _ _ e) second is)

        by_sequence : (b : Bool) → is_same_sequence p.key x.key ≡ b → IsStanding (One_more P x) (beside p second x)
        by_sequence true e = rw e (of_the_first (eqb-true _ _ e) (sooner p x) (sooner_keeps p x) second is)
        by_sequence false e = rw e (by_key (nat_lt x.key p.key) refl (eqb-false _ _ e))

  -- one key more
  pub stands_with : (x : Placed) (first : Option Placed) (second : Option ℕ) → AreFirst P first second → IsStanding (One_more P x) (placed_among first second x)
  stands_with x None second is = (
    inr (refl, refl),
    λ n j q. elim q [
      | inl old ↦ absurd (is.1 n j old)
      | inr new ↦ (new_behind x x x (itself x) n j new.0 new.1, ap index_in new.0)
    ],
  )
  stands_with x (Some p) second is = stands_beside p x second is
