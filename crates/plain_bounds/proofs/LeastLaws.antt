-- The least that the legal sequences of a block cost, minute by minute.
use Rattle.std.proofs.Common.{◌≡◌, ℕ, ◌+◌, ◌<◌, ◌≤◌, ◌⊎◌, inl, inr, min, Option, Some, None, refl, sym, ap, ◌∙◌, subst, arith}
use Rattle.std.proofs.Math.Nat.{min-eq_left, min-eq_right, min-le_left, min-le_right}
use Rattle.std.proofs.lemmas.Bool.{cases_lt}
use Rattle.signal_base.specs.declared.window.Window.{Window}
use Rattle.definitions.specs.declared.block.Block.{Block}
use Rattle.definitions.specs.declared.sequence.Sequence.{Sequence}
use Rattle.definitions.specs.answers.Blocks.{first_of, IsIn, IsMinuteBound}
use Rattle.definitions.specs.heard.Costs.{Costs, sequence_cost}
use Rattle.definitions.specs.sequences.Walks.{IsLegal}
use Rattle.definitions.proofs.KeyLaws.{same_sequence}
use Rattle.plain_costs.specs.Unions.{sequence_from}
use Rattle.field_tables.specs.Floors.{IsFloor}
use Rattle.plain_bounds.specs.Floors.{IsLeast, IsLegalCost, SomeCosts, lesser}

-- the lesser of two numbers is one of them
min_either : (m n : ℕ) → (min m n ≡ m) ⊎ (min m n ≡ n)
min_either m n = elim (cases_lt m n) [
  | inl less ↦ inl (min-eq_left (omega (arith, less)))
  | inr not_less ↦ inr (min-eq_right (omega (arith, not_less)))
]

module _ (costs : Costs) (window : Window) (b : Block) where
  -- what the sequence costs from which a minute's block begins is that minute's bound
  pub bound_of_minute : (q : Sequence) (bound : Option ℕ) → q ≡ first_of b → IsLegalCost costs window q bound → IsMinuteBound costs window b bound
  bound_of_minute q None is not_legal = λ legal. not_legal (subst (IsLegal window) (sym is) legal)
  bound_of_minute q (Some n) is cost = (subst (IsLegal window) is cost.0, cost.1 ∙ ap (sequence_cost costs window) is)

  -- the block's sequences that begin before minute t
  abbrev pub up_to : ℕ → Block
  up_to t = record b { hi = t }

  -- no legal sequence that begins before minute t costs less, and some legal sequence of the block costs that
  abbrev pub IsLeastBefore : ℕ → Option ℕ → Type 0
  IsLeastBefore t None = IsFloor costs window (up_to t) None
  IsLeastBefore t (Some n) = IsFloor costs window (up_to t) (Some n) × SomeCosts costs window b n

  -- a sequence of the block is the one from its first minute on
  from_first : (t : ℕ) (q : Sequence) → IsIn (up_to t) q → q ≡ sequence_from b q.first
  from_first t q is = same_sequence q (sequence_from b q.first) refl is.second is.announced

  -- it is the one from minute t on, or begins before that
  last_or_earlier : (t : ℕ) (q : Sequence) → IsIn (up_to (t + 1)) q → IsIn (up_to t) q ⊎ (q ≡ sequence_from b t)
  last_or_earlier t q is = elim (cases_lt q.first t) [
    | inl earlier ↦ inl (record { announced = is.announced; second = is.second; not_before = is.not_before; before_end = earlier })
    | inr late ↦
        let now : q.first ≡ t = omega (arith, is.before_end, late) in
        inr (subst (λ u. q ≡ sequence_from b u) now (from_first (t + 1) q is))
  ]

  here : (t : ℕ) → b.lo ≤ t → t < b.hi → IsIn b (sequence_from b t)
  here t lo hi = record { announced = refl; second = refl; not_before = lo; before_end = hi }

  pub least_of_none : IsLeastBefore b.lo None
  least_of_none = λ q is legal. absurd (omega (arith, is.not_before, is.before_end))

  -- one more sequence
  pub least_with : (t : ℕ) (best next : Option ℕ) → b.lo ≤ t → t < b.hi → IsLegalCost costs window (sequence_from b t) next
      → IsLeastBefore t best → IsLeastBefore (t + 1) (lesser best next)
  least_with t None None lo hi not_legal before = λ q is legal. elim (last_or_earlier t q is) [
    | inl earlier ↦ before q earlier legal
    | inr last ↦ not_legal (subst (IsLegal window) last legal)
  ]
  least_with t None (Some n) lo hi cost before = (
    (λ q is legal. elim (last_or_earlier t q is) [
      | inl earlier ↦ absurd (before q earlier legal)
      | inr last ↦ omega (arith, cost.1, ap (sequence_cost costs window) last)
    ]),
    (sequence_from b t, here t lo hi, cost.0, cost.1),
  )
  least_with t (Some m) None lo hi not_legal before = (
    (λ q is legal. elim (last_or_earlier t q is) [
      | inl earlier ↦ before.0 q earlier legal
      | inr last ↦ absurd (not_legal (subst (IsLegal window) last legal))
    ]),
    before.1,
  )
  least_with t (Some m) (Some n) lo hi cost before = (
    (λ q is legal. elim (last_or_earlier t q is) [
      | inl earlier ↦ let old = before.0 q earlier legal in omega (arith, old, min-le_left m n)
      | inr last ↦ let new = cost.1 ∙ sym (ap (sequence_cost costs window) last) in omega (arith, new, min-le_right m n)
    ]),
    (elim (min_either m n) [
      | inl old ↦ subst (SomeCosts costs window b) (sym old) before.1
      | inr new ↦ subst (SomeCosts costs window b) (sym new) (sequence_from b t, here t lo hi, cost.0, cost.1)
    ]),
  )

  within : (t : ℕ) (q : Sequence) → b.hi ≤ t → IsIn b q → IsIn (up_to t) q
  within t q end is = record {
    announced = is.announced;
    second = is.second;
    not_before = is.not_before;
    before_end = omega (arith, is.before_end, end);
  }

  -- the whole block
  pub least_of_all : (t : ℕ) (best : Option ℕ) → b.hi ≤ t → IsLeastBefore t best → IsLeast costs window b best
  least_of_all t None end before = λ q is legal. before q (within t q end is) legal
  least_of_all t (Some n) end before = ((λ q is legal. before.0 q (within t q end is) legal), before.1)
