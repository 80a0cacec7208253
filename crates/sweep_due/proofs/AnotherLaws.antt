-- Of all sequences but a given one, the first is among the first two.
use Rattle.std.proofs.Common.{◌≡◌, ◌≢◌, ℕ, ◌<◌, ◌≤◌, ◌⊎◌, inl, inr, Some, sym, ap, ◌∙◌, arith}
use Rattle.signal_base.specs.declared.window.Window.{Window}
use Rattle.definitions.specs.declared.sequence.Sequence.{Sequence}
use Rattle.definitions.specs.answers.FirstTwo.{AreLeastTwo}
use Rattle.definitions.specs.sequences.Keys.{key_of, sequence_of}
use Rattle.definitions.specs.time.Calendar.{century_minutes}
use Rattle.definitions.proofs.AnswerLaws.{same_or_other}
use Rattle.due.specs.Banks.{Bank}
use Rattle.sweep_due.specs.Searches.{IsKeyAt}
use Rattle.sweep_due.specs.Swept.{cost_at}
use Rattle.sweep_due.proofs.KeysLaws.{names}

module _ (window : Window) (bank : Bank) (ceiling i : ℕ) (century : window.to ≤ century_minutes) where
  -- two keys of one sequence are one
  one_named : (n m : ℕ) → IsKeyAt window bank ceiling i n → IsKeyAt window bank ceiling i m → sequence_of n ≡ sequence_of m → n ≡ m
  one_named n m k l same =
      let a = names window bank century ceiling i n k in
      let b = names window bank century ceiling i m l in
      sym a.is ∙ ap (λ (q : Sequence). key_of (cost_at window bank q i) q) (sym a.named ∙ same ∙ b.named) ∙ b.is

  other_two : (a b n : ℕ) (q : Sequence) → AreLeastTwo (IsKeyAt window bank ceiling i) (Some a) (Some b) → IsKeyAt window bank ceiling i n → sequence_of n ≢ q
      → ((sequence_of a ≢ q) × (a ≤ n)) ⊎ ((sequence_of b ≢ q) × (b ≤ n))
  other_two a b n q two key other =
      elim (two.3 n key) [
        | inl same ↦ inl ((λ e. other (ap sequence_of same ∙ e)), omega (arith, same))
        | inr above ↦ elim (same_or_other (sequence_of a) q) [
          | inr apart ↦ let lt = two.2 in inl (apart, omega (arith, lt, above))
          | inl is ↦ inr ((λ e. let same = one_named a b two.0 two.1 (is ∙ sym e) in let lt = two.2 in omega (arith, lt, same)), above)
        ]
      ]

pub another : (window : Window) (bank : Bank) (ceiling i a b n : ℕ) (q : Sequence) → window.to ≤ century_minutes
    → AreLeastTwo (IsKeyAt window bank ceiling i) (Some a) (Some b) → IsKeyAt window bank ceiling i n → sequence_of n ≢ q
    → ((sequence_of a ≢ q) × (a ≤ n)) ⊎ ((sequence_of b ≢ q) × (b ≤ n))
another window bank ceiling i a b n q century = other_two window bank ceiling i century a b n q
