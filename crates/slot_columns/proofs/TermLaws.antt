-- Terms that are added second by second.
use Rattle.std.proofs.Common.{◌≡◌, ℕ, ◌+◌, ◌<◌, inl, inr, Bool, true, false, bit_or, List, [], ◌∷◌, ◌++◌, length, set, refl, sym, ap, ◌∙◌, subst, arith}
use Rattle.std.proofs.Math.ListN.{get_or-append}
use Rattle.std.proofs.lemmas.Bool.{cases_lt}
use Rattle.std.proofs.lemmas.List.{append-nil, append_assoc, get_or-set_other, get_or-set_same, get_or_push, length_push}
use Rattle.std.specs.Int.Bits.{or_self}
use Rattle.definitions.specs.heard.Costs.{sum_below}
use Rattle.definitions.proofs.CostLaws.{sum_below_more, sum_below_none, sum_below_same}
use Rattle.slot_columns.specs.declared.terms.Common.{Common}
use Rattle.slot_columns.specs.declared.terms.Layer.TheVariants.{First, Later, Both}
use Rattle.slot_columns.specs.declared.terms.Term.{Term}
use Rattle.slot_columns.specs.Layered.{AreAlike, AreSeconds, AreTermsOf, HaveCommon, IsCommon, no_term, part_at, place_by, places_of, places_together, second_cost, term_at, term_cost, terms_cost, terms_of}
use Rattle.slot_columns.specs.Rows.{index_of}

-- one term more
seconds_push : (old : List Term) (t : Term) → AreSeconds old → t.second < 60 → AreSeconds (old ++ t ∷ [])
seconds_push old t are within = λ j lt. elim (cases_lt j (length old)) [
  | inl early ↦ subst (λ (x : Term). x.second < 60) (sym (get_or-append old (t ∷ []) no_term j early)) (are j early)
  | inr late ↦ subst (λ (x : Term). x.second < 60) (sym (get_or_push old t no_term j (omega (arith, lt, late, length_push old t)))) within
]

seconds_more : (old : List Term) (s : ℕ) (in_first in_later alike : Bool) → AreSeconds old → s < 60 → AreSeconds (old ++ terms_of s in_first in_later alike)
seconds_more old s true true true are within = seconds_push old (record { second = s; layer = Both }) are within
seconds_more old s true true false are within =
    let one : Term = record { second = s; layer = First } in
    let two : Term = record { second = s; layer = Later } in
    subst AreSeconds (append_assoc old (one ∷ []) (two ∷ [])) (seconds_push (old ++ one ∷ []) two (seconds_push old one are within) within)
seconds_more old s true false alike are within = seconds_push old (record { second = s; layer = First }) are within
seconds_more old s false true alike are within = seconds_push old (record { second = s; layer = Later }) are within
seconds_more old s false false alike are within = subst AreSeconds (sym (append-nil old)) are

module _ (first later : ℕ → ℕ → ℕ) (x y : ℕ → ℕ) where
  -- what a term costs of the places
  abbrev value : Term → ℕ
  value t = term_cost first later t (place_by x y t)

  push : (old : List Term) (t : Term) → terms_cost first later x y (old ++ t ∷ []) ≡ terms_cost first later x y old + value t
  push old t =
      let f = λ (j : ℕ). value (term_at (old ++ t ∷ []) j) in
      let n : ℕ = length old in
      let before = sum_below_same n f (λ j. value (term_at old j)) (λ j lt. ap value (get_or-append old (t ∷ []) no_term j lt)) in
      let last : f n ≡ value t = ap value (get_or_push old t no_term n refl) in
      ap (λ m. sum_below m f) (length_push old t) ∙ omega (arith, sum_below_more n f, before, last)

  -- the terms of one second, where the sets a and b stand for what is common to all pairs
  module _ (old : List Term) (s a b : ℕ) (free_first : first s 0 ≡ 0) (free_later : later s 0 ≡ 0) where
    free : (cost : ℕ → ℕ) (z : ℕ) → cost 0 ≡ 0 → z ≡ 0 → cost (index_of z) ≡ 0
    free cost z none is = ap (λ w. cost (index_of w)) is ∙ none

    pub more : (in_first in_later alike : Bool) → (in_first ≡ false → x s ≡ index_of a) → (in_first ≡ true → a ≡ 0)
        → (in_later ≡ false → y s ≡ index_of b) → (in_later ≡ true → b ≡ 0) → (alike ≡ true → x s ≡ y s)
        → terms_cost first later x y (old ++ terms_of s in_first in_later alike) + (first s (index_of a) + later s (index_of b))
        ≡ terms_cost first later x y old + second_cost first later x y s
    more true true true same none same_later none_later one =
        omega (
          arith,
          push old (record { second = s; layer = Both }),
          free (first s) a free_first (none refl),
          free (later s) b free_later (none_later refl),
          ap (later s) (one refl),
        )
    more true true false same none same_later none_later one =
        let of_first : Term = record { second = s; layer = First } in
        let of_later : Term = record { second = s; layer = Later } in
        omega (
          arith,
          ap (terms_cost first later x y) (append_assoc old (of_first ∷ []) (of_later ∷ [])),
          push (old ++ of_first ∷ []) of_later,
          push old of_first,
          free (first s) a free_first (none refl),
          free (later s) b free_later (none_later refl),
        )
    more true false alike same none same_later none_later one =
        omega (
          arith,
          push old (record { second = s; layer = First }),
          free (first s) a free_first (none refl),
          ap (later s) (same_later refl),
        )
    more false true alike same none same_later none_later one =
        omega (
          arith,
          push old (record { second = s; layer = Later }),
          free (later s) b free_later (none_later refl),
          ap (first s) (same refl),
        )
    more false false alike same none same_later none_later one =
        omega (
          arith,
          ap (terms_cost first later x y) (append-nil old),
          ap (first s) (same refl),
          ap (later s) (same_later refl),
        )

module _ (firsts rests : List (List ℕ)) where
  pub no_terms : (a b : List ℕ) → AreTermsOf firsts rests a b [] 0
  no_terms a b = record {
    seconds = λ j lt. absurd (omega (arith, lt));
    costs = λ first later free_first free_later x y common.
        omega (
          arith,
          sum_below_none (λ j. term_cost first later (term_at [] j) (place_by x y (term_at [] j))),
          sum_below_none (second_cost first later (places_of a) (places_of b)),
          sum_below_none (second_cost first later x y),
        );
  }

  -- with the terms of second s
  pub terms_more : (a b : List ℕ) (old new : List Term) (s : ℕ) (one two : Common) (alike : Bool) → s < 60
      → AreTermsOf firsts rests a b old s → IsCommon firsts s one → IsCommon rests s two → (alike ≡ true → AreAlike firsts rests s)
      → new ≡ old ++ terms_of s one.differs two.differs alike → s < length a → s < length b
      → AreTermsOf firsts rests (set a s one.set) (set b s two.set) new (s + 1)
  terms_more a b old new s one two alike second are in_first in_later one_set is long_a long_b = record {
    seconds = subst AreSeconds (sym is) (seconds_more old s one.differs two.differs alike are.seconds second);
    costs = λ first later free_first free_later x y common.
        let step = more first later x y old s one.set two.set (free_first s second) (free_later s second) one.differs two.differs alike
        (λ e. common.first s one.set (in_first.same e)) in_first.none (λ e. common.later s two.set (in_later.same e)) in_later.none
        (λ e. common.alike s (one_set e)) in
        let before = are.costs first later free_first free_later x y common in
        let new_common = second_cost first later (places_of (set a s one.set)) (places_of (set b s two.set)) in
        let same = sum_below_same s new_common (second_cost first later (places_of a) (places_of b))
        (λ k lt.
        omega (
          arith,
          ap (λ z. first k (index_of z)) (get_or-set_other a s k one.set 0 (λ e. omega (arith, e, lt))),
          ap (λ z. later k (index_of z)) (get_or-set_other b s k two.set 0 (λ e. omega (arith, e, lt))),
        )) in
        omega (
          arith,
          ap (terms_cost first later x y) is,
          step,
          before,
          same,
          sum_below_more s new_common,
          sum_below_more s (second_cost first later x y),
          ap (λ z. first s (index_of z)) (get_or-set_same a s one.set 0 long_a),
          ap (λ z. later s (index_of z)) (get_or-set_same b s two.set 0 long_b),
        );
  }

-- what all pairs have in a second, pair i has, and pairs i and j together
pub common_of_pair : (firsts rests : List (List ℕ)) (i : ℕ) → length firsts ≡ length rests → i < length firsts
    → HaveCommon firsts rests (places_of (part_at firsts i)) (places_of (part_at rests i))
common_of_pair firsts rests i count within = record {
  first = λ s set same. ap index_of (same i within);
  later = λ s set same. ap index_of (same i (omega (arith, within, count)));
  alike = λ s same. ap index_of (same i within);
}

pub common_of_both : (firsts rests : List (List ℕ)) (i j : ℕ) → length firsts ≡ length rests → i < length firsts → j < length firsts
    → HaveCommon firsts rests (places_together (part_at firsts i) (part_at firsts j)) (places_together (part_at rests i) (part_at rests j))
common_of_both firsts rests i j count within also =
    let one = common_of_pair firsts rests i count within in
    let other = common_of_pair firsts rests j count also in
    record {
      first = λ s set same. or_both (one.first s set same) (other.first s set same) ∙ or_self (index_of set);
      later = λ s set same. or_both (one.later s set same) (other.later s set same) ∙ or_self (index_of set);
      alike = λ s same. or_both (one.alike s same) (other.alike s same);
    }
  where
    or_both : {a b c d : ℕ} → a ≡ c → b ≡ d → bit_or a b ≡ bit_or c d
    or_both e f = cc
