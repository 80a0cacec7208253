-- The first bad lines.
use Rattle.std.proofs.Common.{◌≡◌, ℕ, List, [], ◌∷◌, codes, get_or, ap, inl, inr, refl, arith}
use Rattle.std.specs.Fmt.{digits}
use Rattle.definitions.specs.declared.level.Level.{Level}
use Rattle.definitions.specs.declared.level.Level.TheVariants.{High, Low, Unknown}
use Rattle.formats.specs.LogLines.{IsSkipped, letter}
use Rattle.formats.proofs.LineLaws.{SpellsRecord-parts}
use Rattle.formats.proofs.examples.logs.bad_lines.Goals as goal

-- Q is no level's letter
no_level : (level : Level) → 81 ≡ letter level → ⊥
no_level High e = omega (arith, e)
no_level Low e = omega (arith, e)
no_level Unknown e = omega (arith, e)

not_skipped : IsSkipped (codes "4 Q") → ⊥
not_skipped (inl e) = omega (arith, ap (λ (l : List ℕ). get_or l 0 0) e)
not_skipped (inr h) = omega (arith, ap (λ (l : List ℕ). get_or l 0 0) h.1)

pub returns-clause-shape : goal.returns-clause-shape
unfolding digits
returns-clause-shape c = record {
  front = codes "# x" ∷ [] ∷ codes "5 H" ∷ [];
  line = codes "4 Q";
  back = [];
  records = (5, High) ∷ [];
  lines = refl;
  number = refl;
  good = inl (inr (codes " x", refl), inl (inl refl, inr ((5, High), (omega arith, refl), tt, omega arith, refl)));
  bad = (not_skipped, λ r is. no_level r.1 (SpellsRecord-parts (52 ∷ []) 32 81 r is).2);
}

pub returns-clause-rising : goal.returns-clause-rising
unfolding digits
returns-clause-rising c = record {
  front = codes "12 L" ∷ [];
  line = codes "12 H";
  back = [];
  records = (12, Low) ∷ [];
  lines = refl;
  number = refl;
  good = inr ((12, Low), (omega arith, refl), tt, omega arith, refl);
  bad = ((12, High), (omega arith, refl), λ later. omega (arith, later));
}
