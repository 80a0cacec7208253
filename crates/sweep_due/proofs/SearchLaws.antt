-- What stands after the searches of a sweep: the first two sequences among all keys at the offsets so far, though most searches had a
-- lower ceiling and each found two keys alone.
use Rattle.std.proofs.Common.{◌≡◌, ◌≢◌, ℕ, ◌<◌, ◌≤◌, ◌⊎◌, inl, inr, List, [], ◌∷◌, Option, Some, None, min, refl, sym, ap, ◌∙◌, subst, arith}
use Rattle.std.proofs.Math.Nat.{le-min, min-le_left}
use Rattle.std.proofs.lemmas.Bool.{cases_lt}
use Rattle.signal_base.specs.declared.window.Window.{Window}
use Rattle.definitions.specs.answers.FirstTwo.{AreLeastTwo}
use Rattle.definitions.specs.sequences.Keys.{cost_of}
use Rattle.definitions.specs.time.Calendar.{century_minutes}
use Rattle.definitions.proofs.ExistLaws.{decide_le}
use Rattle.definitions.proofs.KeyLaws.{cost_of-le}
use Rattle.due.specs.Banks.{Bank}
use Rattle.sweep_due.specs.declared.standing.Placed.{Placed}
use Rattle.sweep_due.specs.declared.standing.Standing.{Standing}
use Rattle.sweep_due.specs.Searches.{IsAmong, IsFoundAt, IsKeyAt, IsSearched}
use Rattle.sweep_due.specs.Standings.{ceiling_after, ceiling_with, nothing_yet, placed_among, with_one, with_two}
use Rattle.sweep_due.proofs.KeysLaws.{key_cost, key_over, key_under, one_key}
use Rattle.sweep_due.proofs.StandingLaws.{AreFirst, IsBeyond, IsStanding, One_more, beyond_changes_nothing, beyond_two, index_in, stands_with}

abbrev placed : ℕ → ℕ → Placed
placed key offset = record { key = key; offset = offset }

-- a lower cost is a lower key
cheaper : (n l : ℕ) → cost_of l < cost_of n → l ≤ n
cheaper n l lt = elim (decide_le l n) [ inl le ↦ le | inr more ↦ let back = cost_of-le n l (omega (arith, more)) in omega (arith, lt, back) ]

-- a lowered ceiling isn't above that of the bank
pub not_above_the_bank : (ceiling : ℕ) (second : Option ℕ) → ceiling_with ceiling second ≤ ceiling
not_above_the_bank ceiling None = omega arith
not_above_the_bank ceiling (Some l) = min-le_left ceiling (cost_of l)

module _ (window : Window) (bank : Bank) (century : window.to ≤ century_minutes) where
  -- the keys at the offsets so far
  abbrev pub Known : List ℕ → ℕ → ℕ → Type 0
  Known offsets n j = IsAmong offsets j × IsKeyAt window bank bank.ceiling j n

  -- a key above the ceiling of a search is beyond what was known, also once more is
  above_ceiling : (R : ℕ → ℕ → Type 0) (first : Option Placed) (second : Option ℕ) (x : Option Placed) (y : Option ℕ) (P : ℕ → ℕ → Type 0)
      → ((n j : ℕ) → P n j → R n j) → AreFirst P first second → AreFirst R x y
      → (n i : ℕ) → IsKeyAt window bank bank.ceiling i n → ¬ (cost_of n ≤ ceiling_with bank.ceiling second) → IsBeyond x y n
  above_ceiling R first None x y P more is now n i key above = absurd (above (key_cost window bank century bank.ceiling i n key))
  above_ceiling R None (Some l) x y P more is now n i key above = absurd (never is.0)
    where
      never : ◌≡◌ {A = Option ℕ} (Some l) None → ⊥
      never e = cc
  above_ceiling R (Some p) (Some l) x y P more is now n i key above =
      let le = key_cost window bank century bank.ceiling i n key in
      let lt : cost_of l < cost_of n = by_order (cases_lt (cost_of l) (cost_of n)) le in
      let behind = cheaper n l lt in
      let before = is.3 in
      beyond_two R x y now p.key p.offset l is.1.0 n (more p.key p.offset is.0) (more l is.1.0 is.1.1) (λ e. is.2 (sym e)) (omega (arith, before, behind)) behind
    where
      by_order : (cost_of l < cost_of n) ⊎ (cost_of n ≤ cost_of l) → cost_of n ≤ bank.ceiling → cost_of l < cost_of n
      by_order (inl lt) le = lt
      by_order (inr low) le = absurd (above (le-min le low))

  module _ (i : ℕ) (earlier : List ℕ) (s : Standing) (is : IsStanding (Known earlier) s) (ceiling : ℕ) (not_below : ceiling_after bank.ceiling s ≤ ceiling)
      (not_above : ceiling ≤ bank.ceiling) where
    -- what is found under the ceiling is a key under that of the bank
    found_is_key : (n : ℕ) → IsKeyAt window bank ceiling i n → IsKeyAt window bank bank.ceiling i n
    found_is_key n k = key_over window bank century ceiling bank.ceiling i n k not_above

    now : (n : ℕ) → IsKeyAt window bank ceiling i n → Known (i ∷ earlier) n i
    now n k = (inl refl, found_is_key n k)

    before : (n j : ℕ) → Known earlier n j → Known (i ∷ earlier) n j
    before n j k = (inr k.0, k.1)

    -- each key so far was known before, or is at this offset
    parted : (n j : ℕ) → Known (i ∷ earlier) n j → Known earlier n j ⊎ ((i ≡ j) × IsKeyAt window bank bank.ceiling i n)
    parted n j k = elim k.0 [
      | inl same ↦ inr (same, subst (λ (o : ℕ). IsKeyAt window bank bank.ceiling o n) (sym same) k.1)
      | inr old ↦ inl (old, k.1)
    ]

    -- where each key that is found here is known or beyond, so is each key so far
    rest : (R : ℕ → ℕ → Type 0) (x : Option Placed) (y : Option ℕ) → ((n j : ℕ) → Known earlier n j → R n j) → AreFirst R x y
        → ((n : ℕ) → IsKeyAt window bank ceiling i n → R n i ⊎ IsBeyond x y n) → (n j : ℕ) → Known (i ∷ earlier) n j → R n j ⊎ IsBeyond x y n
    rest R x y more stands found n j k = elim (parted n j k) [
      | inl old ↦ inl (more n j old)
      | inr new ↦ elim (decide_le (cost_of n) ceiling) [
        | inl le ↦ elim (found n (key_under window bank century bank.ceiling ceiling i n new.1 le)) [
          | inl known ↦ inl (subst (λ (o : ℕ). R n o) new.0 known)
          | inr beyond ↦ inr beyond
        ]
        | inr above ↦ inr (above_ceiling R s.first s.second x y (Known earlier) more is stands n i new.1 (λ le. above (omega (arith, le, not_below))))
      ]
    ]

    found_none : AreLeastTwo (IsKeyAt window bank ceiling i) None None → IsStanding (Known (i ∷ earlier)) s
    found_none none =
        beyond_changes_nothing (Known earlier) (Known (i ∷ earlier)) before s.first s.second is
        (rest (Known earlier) s.first s.second (λ n j k. k) is (λ n k. absurd (none n k)))

    -- once the least key is known
    abbrev With_first : ℕ → ℕ → ℕ → Type 0
    With_first a = One_more (Known earlier) (placed a i)

    first_stands : (a : ℕ) → IsStanding (With_first a) (with_one s i (Some a))
    first_stands a = stands_with (Known earlier) (placed a i) s.first s.second is

    first_is_known : (a : ℕ) → IsKeyAt window bank ceiling i a → (n j : ℕ) → With_first a n j → Known (i ∷ earlier) n j
    first_is_known a key n j (inl old) = before n j old
    first_is_known a key n j (inr new) = (inl (sym new.1), subst (λ (m : ℕ). IsKeyAt window bank bank.ceiling j m) (sym new.0) (subst (λ (o : ℕ). IsKeyAt window bank bank.ceiling o a) (sym new.1) (found_is_key a key)))

    found_one : (a : ℕ) → AreLeastTwo (IsKeyAt window bank ceiling i) (Some a) None → IsStanding (Known (i ∷ earlier)) (with_one s i (Some a))
    found_one a one =
        let t = with_one s i (Some a) in
        beyond_changes_nothing (With_first a) (Known (i ∷ earlier)) (first_is_known a one.0) t.first t.second (first_stands a)
        (rest (With_first a) t.first t.second (λ n j k. inl k) (first_stands a) (λ n k. inl (inr (one.1 n k, refl))))

    -- once both are
    abbrev With_both : ℕ → ℕ → ℕ → ℕ → Type 0
    With_both a b = One_more (With_first a) (placed b i)

    both_are_known : (a b : ℕ) → IsKeyAt window bank ceiling i a → IsKeyAt window bank ceiling i b → (n j : ℕ) → With_both a b n j → Known (i ∷ earlier) n j
    both_are_known a b key other n j (inl old) = first_is_known a key n j old
    both_are_known a b key other n j (inr new) = first_is_known b other n j (inr new)

    found_two : (a b : ℕ) → AreLeastTwo (IsKeyAt window bank ceiling i) (Some a) (Some b) → IsStanding (Known (i ∷ earlier)) (with_two s i (Some a) (Some b))
    found_two a b two =
        let t = with_one s i (Some a) in
        let u = with_two s i (Some a) (Some b) in
        let stands : IsStanding (With_both a b) u = stands_with (With_first a) (placed b i) t.first t.second (first_stands a) in
        let lt = two.2 in
        let apart : index_in a ≢ index_in b = (λ e. let same = one_key window bank century ceiling ceiling i a b two.0 two.1 e in omega (arith, lt, same)) in
        beyond_changes_nothing (With_both a b) (Known (i ∷ earlier)) (both_are_known a b two.0 two.1) u.first u.second stands
        (rest (With_both a b) u.first u.second (λ n j k. inl (inl k)) stands
        (λ n k. elim (two.3 n k) [
          | inl same ↦ inl (inl (inr (same, refl)))
          | inr above ↦ inr (beyond_two (With_both a b) u.first u.second stands a i b i n (inl (inr (refl, refl))) (inr (refl, refl)) apart (omega (arith, lt, above)) above)
        ]))

    stands_after : (first second : Option ℕ) → AreLeastTwo (IsKeyAt window bank ceiling i) first second → IsStanding (Known (i ∷ earlier)) (with_two s i first second)
    stands_after None None least = found_none least
    stands_after None (Some b) least = absurd least
    stands_after (Some a) None least = found_one a least
    stands_after (Some a) (Some b) least = found_two a b least

  -- after all searches
  pub searched_stands : (offsets : List ℕ) (s : Standing) → IsSearched window bank offsets s → IsStanding (Known offsets) s
  searched_stands [] s e = subst (λ (t : Standing). IsStanding (Known []) t) (sym e) (refl, λ n j k. k.0)
  searched_stands (i ∷ earlier) s h =
      let at = h.2 in
      let found = at.found in
      subst (λ (t : Standing). IsStanding (Known (i ∷ earlier)) t) (sym found.3)
      (stands_after i earlier h.0 (searched_stands earlier h.0 h.1) at.ceiling at.not_below at.not_above found.0 found.1 found.2)
