-- A window has a first and a second key, as far as it admits sequences.
use Rattle.std.proofs.Common.{ℕ, ◌<◌, ◌≤◌, inl, inr, Option, Some, None, refl, sym, ap, ◌∙◌, ⊎_elim, arith}
use Rattle.signal_base.specs.declared.window.Window.{Window}
use Rattle.definitions.specs.declared.answer.Answer.{Answer}
use Rattle.definitions.specs.declared.answer.Answer.TheVariants as answers
use Rattle.definitions.specs.declared.sequence.Sequence.{Sequence}
use Rattle.definitions.specs.time.Calendar.{century_minutes}
use Rattle.definitions.specs.heard.Costs.{Costs, sequence_cost}
use Rattle.definitions.specs.sequences.Keys.{key_of}
use Rattle.definitions.specs.sequences.Walks.{IsLegal, IsSequence}
use Rattle.definitions.specs.answers.Answers.{IsAdmitted, IsAnswer}
use Rattle.definitions.specs.answers.FirstTwo.{AreLeastTwo, IsKey, IsWindowKey}
use Rattle.definitions.proofs.AnswerLaws.{same_or_other, walkable_sequence}
use Rattle.definitions.proofs.ExistLaws.{Decided, decide_both, decide_le, decide_legal, decided_has_answer}
use Rattle.definitions.proofs.KeyLaws.{key_of_injective}

-- where keys are costs, no two sequences cost the same, and the answer tells the two least keys
module _ (admitted : Sequence → Type 0) (cost : Sequence → ℕ) (is_sequence : (q : Sequence) → admitted q → IsSequence q) where
  abbrev key : Sequence → ℕ
  key q = key_of (cost q) q

  abbrev TwoLeast : Type 0
  TwoLeast = (first : Option ℕ) × (second : Option ℕ) × AreLeastTwo (IsKey admitted cost) first second

  of_answer : (a : Answer) → IsAnswer admitted key a → TwoLeast
  of_answer answers.Nothing none = (None, None, λ n is. none is.0 is.1)
  of_answer (answers.Decided c q None) is =
      (Some (key q), None, ((q, is.0.is_admitted, refl), λ n k. sym k.2 ∙ ap key (is.0.is_next k.0 k.1)))
  of_answer (answers.Decided c q (Some m)) is =
      let next = is.0.is_next.some in
      let above : key q < m = omega (arith, is.0.cheapest next.0 next.1 next.2, next.3) in (
        Some (key q),
        Some m,
        (
          (q, is.0.is_admitted, refl),
          (next.0, next.1, next.3),
          above,
          λ n k. ⊎_elim (λ same. inl (sym k.2 ∙ ap key same)) (λ other. inr (omega (arith, is.0.is_next.least k.0 k.1 other, k.2))) (same_or_other k.0 q),
        ),
      )
  of_answer (answers.Undecided c q r) is =
      let a = is.0.are_admitted in
      absurd (is.0.other (sym (key_of_injective (cost q) (cost r) q r (is_sequence q a.0) (is_sequence r a.1) is.0.tie)))

  two_least : ((q : Sequence) → Decided (admitted q)) → TwoLeast
  two_least decide = let found = decided_has_answer admitted key is_sequence decide in of_answer found.0 found.1

pub window_keys : (window : Window) (costs : Costs) (ceiling : ℕ) → window.to ≤ century_minutes
    → (first : Option ℕ) × (second : Option ℕ) × AreLeastTwo (IsWindowKey window costs ceiling) first second
window_keys window costs ceiling century =
    two_least (IsAdmitted (IsLegal window) (sequence_cost costs window) ceiling) (sequence_cost costs window)
    (λ q a. walkable_sequence window q century a.0.0)
    (λ q. decide_both (decide_legal window q) (decide_le (sequence_cost costs window q) ceiling))
