-- A key names its sequence and its cost.
use Rattle.std.proofs.Common.{◌≡◌, ℕ, ◌+◌, ◌*◌, ◌/◌, ◌%◌, ◌^◌, ◌<◌, ◌≤◌, Bool, true, false, refl, sym, ap, ◌∙◌, arith}
use Rattle.std.proofs.lemmas.Bool.Decides.{nat_tests}
use Rattle.definitions.specs.declared.sequence.Sequence.{Sequence}
use Rattle.definitions.specs.time.Calendar.{century_minutes}
use Rattle.definitions.specs.sequences.Walks.{IsSequence}
use Rattle.definitions.specs.sequences.Keys.{index_of, index_end, key_of}
use Rattle.definitions.specs.sequences.Keys.{sequence_at, sequence_of, cost_of}

by_fields : (f s f' s' : ℕ) (a a' : Bool) → f ≡ f' → s ≡ s' → a ≡ a' → ◌≡◌ {A = Sequence} (record { first = f; second = s; announced = a }) (record { first = f'; second = s'; announced = a' })
by_fields f s f' s' a a' e g h = cc

-- sequences with the same numbers are one
pub same_sequence : (q r : Sequence) → q.first ≡ r.first → q.second ≡ r.second → q.announced ≡ r.announced → q ≡ r
same_sequence q r first second announced = by_fields q.first q.second r.first r.second q.announced r.announced first second announced

pub index_bound : (q : Sequence) → IsSequence q → index_of q < index_end
index_bound q is = bound q.announced refl
  where
    bound : (b : Bool) → q.announced ≡ b → index_of q < index_end
    bound true e = rw e (omega arith)
    bound false e = rw e (omega arith)

parts : (x f : ℕ) → f < century_minutes → ((x * century_minutes + f) % century_minutes ≡ f) × ((x * century_minutes + f) / century_minutes ≡ x)
parts x f small = (omega arith, omega arith)

of_second : (f s : ℕ) (b : Bool) → f < century_minutes → s ≤ 60 → sequence_at (index_of (record { first = f; second = s; announced = b })) ≡ record { first = f; second = s; announced = b }
of_second f s true small few =
    let p = parts (61 + s) f small in
    by_fields _ _ f s _ true p.0 (rw p.1 (omega arith)) (rw p.1 (grind (arith, nat_tests)))
of_second f s false small few =
    let p = parts (0 + s) f small in
    by_fields _ _ f s _ false p.0 (rw p.1 (omega arith)) (rw p.1 (grind (arith, nat_tests)))

pub sequence_at-index_of : (q : Sequence) → IsSequence q → sequence_at (index_of q) ≡ q
sequence_at-index_of q is = of_second q.first q.second q.announced is.first_minute is.first_second

key_parts : (c i : ℕ) → i < index_end → ((c * 2 ^ 33 + i) % 2 ^ 33 ≡ i) × ((c * 2 ^ 33 + i) / 2 ^ 33 ≡ c)
key_parts c i small = (omega arith, omega arith)

-- the cost comes back from a key
pub cost_of-key_of : (c : ℕ) (q : Sequence) → IsSequence q → cost_of (key_of c q) ≡ c
cost_of-key_of c q is = (key_parts c (index_of q) (index_bound q is)).1

-- the sequence comes back from a key
pub sequence_of-key_of : (c : ℕ) (q : Sequence) → IsSequence q → sequence_of (key_of c q) ≡ q
sequence_of-key_of c q is = ap sequence_at (key_parts c (index_of q) (index_bound q is)).0 ∙ sequence_at-index_of q is

-- a key has the index of a sequence
pub key_index : (c : ℕ) (q : Sequence) → IsSequence q → key_of c q % 2 ^ 33 < index_end
key_index c q is = omega (arith, (key_parts c (index_of q) (index_bound q is)).0, index_bound q is)

-- different sequences have different keys
pub key_of_injective : (c d : ℕ) (q r : Sequence) → IsSequence q → IsSequence r → key_of c q ≡ key_of d r → q ≡ r
key_of_injective c d q r is also e = sym (sequence_of-key_of c q is) ∙ ap sequence_of e ∙ sequence_of-key_of d r also

-- keys are ordered by cost first
pub cost_of-le : (k l : ℕ) → k ≤ l → cost_of k ≤ cost_of l
cost_of-le k l le = omega arith
