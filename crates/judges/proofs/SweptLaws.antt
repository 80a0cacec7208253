-- The offsets that are come to below a number are those that are swept, and one more is come to with each.
use Rattle.std.proofs.Common.{◌≡◌, ℕ, zero, suc, ◌+◌, ◌<◌, ◌⊎◌, inl, inr, Bool, true, false, if◌then◌else◌, ◌∷◌, refl, sym, ap, ◌∙◌, arith}
use Rattle.std.proofs.lemmas.Bool.{cases_eq}
use Rattle.sweep_due.specs.declared.offsets.TheConstants.{OFFSETS}
use Rattle.sweep_due.specs.Phases.{is_swept}
use Rattle.sweep_due.specs.Searches.{AreAllSwept, IsAmong}
use Rattle.sweep.specs.Turns.{with_offset}
use Rattle.judges.specs.Judging.{swept_below}

module _ (phase : ℕ) where
  pub below : (n i : ℕ) → IsAmong (swept_below phase n) i → (i < n) × (is_swept phase i ≡ true)
  below zero i is = absurd is
  below (suc n) i is = by_test (is_swept phase n) refl (λ more. further (below n i more)) is
    where
      further : (i < n) × (is_swept phase i ≡ true) → (i < suc n) × (is_swept phase i ≡ true)
      further h = (omega (arith, h.0), h.1)

      by_test : (b : Bool) → is_swept phase n ≡ b → (IsAmong (swept_below phase n) i → (i < suc n) × (is_swept phase i ≡ true))
          → IsAmong (with_offset phase n (swept_below phase n)) i → (i < suc n) × (is_swept phase i ≡ true)
      by_test true e rest is = elim (rw e at is) [ inl same ↦ (omega (arith, same), ap (is_swept phase) (sym same) ∙ e) | inr more ↦ rest more ]
      by_test false e rest is = rest (rw e at is)

  pub listed : (n i : ℕ) → i < n → is_swept phase i ≡ true → IsAmong (swept_below phase n) i
  listed zero i lt is = absurd (omega (arith, lt))
  listed (suc n) i lt is = by_place (cases_eq n i) (λ before. listed n i before is)
    where
      with_test : (b : Bool) → IsAmong (swept_below phase n) i → IsAmong (if b then n ∷ swept_below phase n else swept_below phase n) i
      with_test true some = inr some
      with_test false some = some

      by_place : (n ≡ i) ⊎ (¬ (n ≡ i)) → (i < n → IsAmong (swept_below phase n) i) → IsAmong (swept_below phase (suc n)) i
      by_place (inl e) rest = rw (ap (is_swept phase) e ∙ is) (inl e)
      by_place (inr other) rest = with_test (is_swept phase n) (rest (omega (arith, lt, other)))

  pub all_below : AreAllSwept phase (swept_below phase OFFSETS)
  all_below = record {
    each = λ i is. below OFFSETS i is;
    all = λ i is. listed OFFSETS i is.0 is.1;
  }

  -- one offset more
  next : (n : ℕ) → swept_below phase (n + 1) ≡ with_offset phase n (swept_below phase n)
  next n = let e : n + 1 ≡ suc n = omega arith in ap (swept_below phase) e

  pub next_swept : (n : ℕ) → is_swept phase n ≡ true → n ∷ swept_below phase n ≡ swept_below phase (n + 1)
  next_swept n is = sym (next n ∙ ap (λ (b : Bool). if b then n ∷ swept_below phase n else swept_below phase n) is)

  pub next_left_out : (n : ℕ) → is_swept phase n ≡ false → swept_below phase n ≡ swept_below phase (n + 1)
  next_left_out n is = sym (next n ∙ ap (λ (b : Bool). if b then n ∷ swept_below phase n else swept_below phase n) is)
