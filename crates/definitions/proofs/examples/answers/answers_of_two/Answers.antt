-- Answers over two sequences.
use Rattle.std.proofs.Common.{◌≡◌, ◌≢◌, ◌≤◌, inl, inr, refl, ap, arith}
use Rattle.definitions.specs.declared.sequence.Sequence.{Sequence}
use Rattle.definitions.specs.sequences.Keys.{key_of}
use Rattle.definitions.specs.examples.Sequences.{IsEither, from_place}
use Rattle.definitions.proofs.examples.answers.answers_of_two.Goals as goal

-- one of the two that isn't the first is the other, and the other isn't the first
other : (q : Sequence) → IsEither q → q ≢ from_place 720 0 → q ≡ from_place 720 1
other q (inl e) apart = absurd (apart e)
other q (inr e) apart = e

apart : from_place 720 1 ≢ from_place 720 0
apart e = omega (arith, ap (λ (q : Sequence). q.second) e)

neither : (q : Sequence) → IsEither q → q ≢ from_place 720 0 → q ≢ from_place 720 1 → ⊥
neither q (inl e) first second = first e
neither q (inr e) first second = second e

-- its second
late : (q : Sequence) → IsEither q → q ≢ from_place 720 0 → q.second ≡ 1
late q is not = ap (λ (r : Sequence). r.second) (other q is not)

pub returns-clause-decided : goal.returns-clause-decided
returns-clause-decided c = (
  record {
    is_admitted = inl refl;
    cheapest = λ r is not. omega (arith, late r is not);
    is_next = record { some = (from_place 720 1, inr refl, apart, refl); least = λ r is not. omega (arith, late r is not) };
  },
  refl,
)

pub returns-clause-tie : goal.returns-clause-tie
returns-clause-tie c = (
  record {
    are_admitted = (inl refl, inr refl);
    first = λ s is not. omega (arith, ap (key_of 0) (other s is not));
    other = apart;
    second = λ s is not also. absurd (neither s is not also);
    tie = refl;
  },
  refl,
)

pub returns-clause-alone : goal.returns-clause-alone
returns-clause-alone c = (
  record {
    is_admitted = (inl refl, omega arith);
    cheapest = λ r is not. omega (arith, is.1, late r is.0 not);
    is_next = λ r is. only r is.0 is.1;
  },
  refl,
)
  where
    only : (r : Sequence) → IsEither r → r.second ≤ 0 → r ≡ from_place 720 0
    only r (inl e) le = e
    only r (inr e) le = absurd (omega (arith, le, ap (λ (q : Sequence). q.second) e))

pub returns-clause-not_tied : goal.returns-clause-not_tied
returns-clause-not_tied c = λ is. omega (arith, is.0.tie)
