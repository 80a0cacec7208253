-- The first two admitted sequences give the answer, and how they are kept.
use Rattle.std.proofs.Common.{◌≡◌, ◌≢◌, ℕ, ◌<◌, ◌≤◌, ◌⊎◌, inl, inr, Bool, true, false, nat_lt, Option, Some, None, refl, ap, subst, arith}
use Rattle.std.proofs.lemmas.Bool.{ltb-true, ltb-false}
use Rattle.definitions.specs.declared.sequence.Sequence.{Sequence}
use Rattle.definitions.specs.sequences.Walks.{IsSequence}
use Rattle.definitions.specs.sequences.Keys.{key_of}
use Rattle.definitions.specs.answers.Answers.{IsAnswer, IsDecided, IsUndecided}
use Rattle.definitions.specs.answers.FirstTwo.{answer_from, answer_after, IsKey, AreLeastTwo}
use Rattle.definitions.proofs.KeyLaws.{cost_of-key_of, sequence_of-key_of, key_of_injective, cost_of-le}

module _ (admitted : Sequence → Type 0) (cost : Sequence → ℕ) (each : (q : Sequence) → admitted q → IsSequence q) where
  -- the answer where q alone is admitted
  alone : (q : Sequence) → admitted q → ((n : ℕ) → IsKey admitted cost n → n ≡ key_of (cost q) q)
      → IsAnswer admitted cost (answer_from (Some (key_of (cost q) q)) None)
  alone q a only =
      let same : (r : Sequence) → admitted r → r ≡ q = (λ r b. key_of_injective _ _ r q (each r b) (each q a) (only (key_of (cost r) r) (r, b, refl))) in
      rw (cost_of-key_of (cost q) q (each q a), sequence_of-key_of (cost q) q (each q a))
      (record { is_admitted = a; cheapest = λ r b other. absurd (other (same r b)); is_next = same }, refl)

  -- each other key is the second's or above
  later : (q r : Sequence) → admitted q → ((n : ℕ) → IsKey admitted cost n → (n ≡ key_of (cost q) q) ⊎ (key_of (cost r) r ≤ n))
      → (s : Sequence) → admitted s → s ≢ q → key_of (cost r) r ≤ key_of (cost s) s
  later q r a above s b other =
      elim (above (key_of (cost s) s) (s, b, refl)) [
        | inl e ↦ absurd (other (key_of_injective _ _ s q (each s b) (each q a) e))
        | inr le ↦ le
      ]

  decided : (q r : Sequence) → admitted q → admitted r → key_of (cost q) q < key_of (cost r) r
      → ((n : ℕ) → IsKey admitted cost n → (n ≡ key_of (cost q) q) ⊎ (key_of (cost r) r ≤ n))
      → cost q < cost r → IsDecided admitted cost q (Some (cost r))
  decided q r a b lt above cheaper =
      let dearer : (s : Sequence) → admitted s → s ≢ q → cost r ≤ cost s = (λ s d other.
      let le = cost_of-le _ _ (later q r a above s d other) in
      rw (cost_of-key_of (cost r) r (each r b), cost_of-key_of (cost s) s (each s d)) at le) in
      let apart : r ≢ q = (λ e. let same = ap cost e in absurd (omega arith)) in
      record {
        is_admitted = a;
        cheapest = λ s d other. omega (arith, dearer s d other);
        is_next = record { some = (r, b, apart, refl); least = dearer };
      }

  undecided : (q r : Sequence) → admitted q → admitted r → key_of (cost q) q < key_of (cost r) r
      → ((n : ℕ) → IsKey admitted cost n → (n ≡ key_of (cost q) q) ⊎ (key_of (cost r) r ≤ n))
      → cost r ≤ cost q → IsUndecided admitted cost q r
  undecided q r a b lt above dear =
      let le = cost_of-le (key_of (cost q) q) (key_of (cost r) r) (omega arith) in
      let cheap : cost q ≤ cost r = rw (cost_of-key_of (cost q) q (each q a), cost_of-key_of (cost r) r (each r b)) at le in
      record {
        are_admitted = (a, b);
        first = λ s d other. omega (arith, later q r a above s d other);
        other = λ e. let same = ap (λ s. key_of (cost s) s) e in absurd (omega (arith, same));
        second = λ s d other another.
            let above_it = later q r a above s d other in
            let apart : key_of (cost s) s ≢ key_of (cost r) r = (λ e. another (key_of_injective _ _ s r (each s d) (each r b) e)) in
            omega arith;
        tie = omega arith;
      }

  both : (q r : Sequence) → admitted q → admitted r → key_of (cost q) q < key_of (cost r) r
      → ((n : ℕ) → IsKey admitted cost n → (n ≡ key_of (cost q) q) ⊎ (key_of (cost r) r ≤ n))
      → (b : Bool) → nat_lt (cost q) (cost r) ≡ b → IsAnswer admitted cost (answer_after (key_of (cost q) q) (key_of (cost r) r))
  both q r a b lt above true e =
      rw (cost_of-key_of (cost q) q (each q a), sequence_of-key_of (cost q) q (each q a), cost_of-key_of (cost r) r (each r b), e)
      (decided q r a b lt above (ltb-true _ _ e), refl)
  both q r a b lt above false e =
      rw (cost_of-key_of (cost q) q (each q a), sequence_of-key_of (cost q) q (each q a), cost_of-key_of (cost r) r (each r b), sequence_of-key_of (cost r) r (each r b), e)
      (undecided q r a b lt above (ltb-false _ _ e), refl)

  -- the first two keys give the answer
  pub answer_is : (first second : Option ℕ) → AreLeastTwo (IsKey admitted cost) first second → IsAnswer admitted cost (answer_from first second)
  answer_is None None none = λ q a. none (key_of (cost q) q) (q, a, refl)
  answer_is None (Some l) none = elim none [ ]
  answer_is (Some k) None ends =
      subst (λ k. ((n : ℕ) → IsKey admitted cost n → n ≡ k) → IsAnswer admitted cost (answer_from (Some k) None)) ends.0.2 (alone ends.0.0 ends.0.1) ends.1
  answer_is (Some k) (Some l) ends =
      let q = ends.0 in let r = ends.1 in
      rw (← q.2, ← r.2)
      (both q.0 r.0 q.1 r.1 (rw (q.2, r.2) ends.2) (rw (q.2, r.2) ends.3) _ refl)
