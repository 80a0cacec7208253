-- The list of swept offsets has each of them.
use Rattle.std.proofs.Common.{◌≡◌, ℕ, zero, suc, ◌+◌, ◌<◌, ◌≤◌, ◌⊎◌, inl, inr, Bool, true, false, if◌then◌else◌, List, [], ◌∷◌, filter, refl, sym, ap, ◌∙◌, subst, arith}
use Rattle.std.specs.List.{range_with_len}
use Rattle.std.proofs.lemmas.Bool.{cases_eq}
use Rattle.sweep_due.specs.declared.offsets.TheConstants.{OFFSETS}
use Rattle.sweep_due.specs.Phases.{is_swept, swept_offsets}
use Rattle.sweep_due.specs.Searches.{AreAllSwept, IsAmong}

among : (p : ℕ → Bool) (i a n : ℕ) → IsAmong (filter p (range_with_len a n)) i → (i < a + n) × (p i ≡ true)
among p i a zero is = absurd is
among p i a (suc n) is = by_test (p a) refl (λ more. further (among p i (a + 1) n more)) is
  where
    further : (i < a + 1 + n) × (p i ≡ true) → (i < a + suc n) × (p i ≡ true)
    further h = (omega (arith, h.0), h.1)

    by_test : (b : Bool) → p a ≡ b → (IsAmong (filter p (range_with_len (a + 1) n)) i → (i < a + suc n) × (p i ≡ true))
        → IsAmong (if p a then a ∷ filter p (range_with_len (a + 1) n) else filter p (range_with_len (a + 1) n)) i → (i < a + suc n) × (p i ≡ true)
    by_test true e rest is = elim (rw e at is) [ inl same ↦ (omega (arith, same), ap p (sym same) ∙ e) | inr more ↦ rest more ]
    by_test false e rest is = rest (rw e at is)

listed : (p : ℕ → Bool) (i a n : ℕ) → a ≤ i → i < a + n → p i ≡ true → IsAmong (filter p (range_with_len a n)) i
listed p i a zero le lt is = absurd (omega (arith, le, lt))
listed p i a (suc n) le lt is = by_place (cases_eq a i) (λ more. listed p i (a + 1) n more (omega (arith, lt)) is)
  where
    with_test : (b : Bool) → IsAmong (filter p (range_with_len (a + 1) n)) i → IsAmong (if b then a ∷ filter p (range_with_len (a + 1) n) else filter p (range_with_len (a + 1) n)) i
    with_test true some = inr some
    with_test false some = some

    by_place : (a ≡ i) ⊎ (¬ (a ≡ i)) → (a + 1 ≤ i → IsAmong (filter p (range_with_len (a + 1) n)) i) → IsAmong (filter p (range_with_len a (suc n))) i
    by_place (inl e) rest = rw (ap p e ∙ is) (inl e)
    by_place (inr other) rest = with_test (p a) (rest (omega (arith, le, other)))

pub all_swept : (phase : ℕ) → AreAllSwept phase (swept_offsets phase)
all_swept phase = record {
  each = λ i is. let h = among (is_swept phase) i 0 OFFSETS is in (omega (arith, h.0), h.1);
  all = λ i is. listed (is_swept phase) i 0 OFFSETS (omega arith) (omega (arith, is.0)) is.1;
}
