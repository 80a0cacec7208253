-- The offsets that a sweep comes to are those that are swept, each at some turn.
use Rattle.std.proofs.Common.{◌≡◌, ℕ, zero, suc, ◌+◌, ◌-◌, ◌<◌, ◌≤◌, ◌⊎◌, inl, inr, ◌==◌, Bool, true, false, nat_le, if◌then◌else◌, List, ◌∷◌, refl, sym, ap, ◌∙◌, subst, arith}
use Rattle.std.proofs.lemmas.Bool.{cases_eq, cases_lt, le-leb, lt-leb, ne_eqb}
use Rattle.signal_base.specs.declared.window.Window.{Window}
use Rattle.due.specs.Banks.{Bank}
use Rattle.sweep_due.specs.declared.offsets.TheConstants.{OFFSETS}
use Rattle.sweep_due.specs.declared.standing.Standing.{Standing}
use Rattle.sweep_due.specs.Phases.{IsSwept, is_swept}
use Rattle.sweep_due.specs.Searches.{AreAllSwept, IsAmong, IsSearched, IsSearchedAt}
use Rattle.sweep.specs.declared.turns.TheConstants.{MIDDLE}
use Rattle.sweep.specs.Turns.{offset_at, offsets_of, with_offset}

module _ (window : Window) (bank : Bank) (i : ℕ) (before : Standing) where
  -- a search at an offset that is swept
  pub one_search_more : (after : Standing) → is_swept window.phase i ≡ true → IsSearchedAt window bank i before after
      → (earlier : List ℕ) → IsSearched window bank earlier before → IsSearched window bank (with_offset window.phase i earlier) after
  one_search_more after swept found earlier searched = rw swept (before, searched, found)

  -- no search
  pub left_out : is_swept window.phase i ≡ false → (earlier : List ℕ) → IsSearched window bank earlier before → IsSearched window bank (with_offset window.phase i earlier) before
  left_out not_swept earlier searched = rw not_swept searched

-- the offset of a turn is one, and each offset has its turn
offset_bound : (turn : ℕ) → turn < OFFSETS → offset_at turn < OFFSETS
offset_bound turn lt = by_first (turn == 0) refl
  where
    by_middle : (b : Bool) → nat_le turn MIDDLE ≡ b → (if nat_le turn MIDDLE then turn - 1 else turn) < OFFSETS
    by_middle true e = rw e (omega (arith, lt))
    by_middle false e = rw e lt

    by_first : (b : Bool) → (turn == 0) ≡ b → offset_at turn < OFFSETS
    by_first true e = rw e (omega arith)
    by_first false e = rw e (by_middle (nat_le turn MIDDLE) refl)

turn_of : (i : ℕ) → i < OFFSETS → (turn : ℕ) × (turn < OFFSETS) × (offset_at turn ≡ i)
turn_of i lt = elim (cases_eq i MIDDLE) [
  | inl e ↦ (0, omega arith, sym e)
  | inr other ↦ elim (cases_lt i MIDDLE) [
    | inl low ↦ (i + 1, omega (arith, lt, low), rw (ne_eqb (i + 1) 0 (λ e. omega (arith, e)), le-leb (i + 1) MIDDLE (omega (arith, low))) (omega arith))
    | inr high ↦ (i, lt, rw (ne_eqb i 0 (λ e. omega (arith, e, high)), lt-leb i MIDDLE (omega (arith, high, other))) refl)
  ]
]

module _ (phase : ℕ) where
  -- what is left out isn't swept
  each_of : (turn : ℕ) (i : ℕ) → turn ≤ OFFSETS → IsAmong (offsets_of phase turn) i → IsSwept phase i
  each_of zero i le is = absurd is
  each_of (suc turn) i le is = by_test (is_swept phase (offset_at turn)) refl (λ more. each_of turn i (omega (arith, le)) more) is
    where
      by_test : (b : Bool) → is_swept phase (offset_at turn) ≡ b → (IsAmong (offsets_of phase turn) i → IsSwept phase i)
          → IsAmong (with_offset phase (offset_at turn) (offsets_of phase turn)) i → IsSwept phase i
      by_test true e rest is = elim (rw e at is) [
        | inl same ↦ subst (IsSwept phase) same (offset_bound turn (omega (arith, le)), e)
        | inr more ↦ rest more
      ]
      by_test false e rest is = rest (rw e at is)

  at_its_turn : (turns turn : ℕ) → turn < turns → is_swept phase (offset_at turn) ≡ true → IsAmong (offsets_of phase turns) (offset_at turn)
  at_its_turn zero turn lt swept = absurd (omega (arith, lt))
  at_its_turn (suc n) turn lt swept = by_place (cases_eq n turn) (λ before. at_its_turn n turn before swept)
    where
      with_test : (b : Bool) → IsAmong (offsets_of phase n) (offset_at turn) → IsAmong (if b then offset_at n ∷ offsets_of phase n else offsets_of phase n) (offset_at turn)
      with_test true some = inr some
      with_test false some = some

      by_place : (n ≡ turn) ⊎ (¬ (n ≡ turn)) → (turn < n → IsAmong (offsets_of phase n) (offset_at turn)) → IsAmong (offsets_of phase (suc n)) (offset_at turn)
      by_place (inl e) rest = rw (ap (λ (t : ℕ). is_swept phase (offset_at t)) e ∙ swept) (inl (ap offset_at e))
      by_place (inr other) rest = with_test (is_swept phase (offset_at n)) (rest (omega (arith, lt, other)))

  -- all that are swept
  pub all_offsets : AreAllSwept phase (offsets_of phase OFFSETS)
  all_offsets = record {
    each = λ i is. each_of OFFSETS i (omega arith) is;
    all = λ i is.
        let at = turn_of i is.0 in
        subst (λ (j : ℕ). IsAmong (offsets_of phase OFFSETS) j) at.2 (at_its_turn OFFSETS at.0 at.1 (ap (is_swept phase) at.2 ∙ is.1));
  }

  -- one turn more
  pub next_turn : (turn : ℕ) → offsets_of phase (turn + 1) ≡ with_offset phase (offset_at turn) (offsets_of phase turn)
  next_turn turn = let e : turn + 1 ≡ suc turn = omega arith in ap (offsets_of phase) e
