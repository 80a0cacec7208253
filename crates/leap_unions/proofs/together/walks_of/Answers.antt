use Rattle.std.proofs.Common.{◌≡◌, ◌+◌, ◌-◌, ◌*◌, ◌<◌, ℕ, inl, inr, true, slice_index, refl, ap, ◌∙◌, subst, arith, rules}
use Rattle.std.proofs.lemmas.Bool.{cases_lt}
use Rattle.signal_base.specs.Mask.{has_bit}
use Rattle.definitions.specs.codes.Allowed.{allowed}
use Rattle.definitions.specs.sequences.Walks.{set_at}
use Rattle.minute_parts.proofs.UnionLaws.{has_or}
use Rattle.leap_unions.specs.Pieces.{announced_from}
use Rattle.leap_unions.proofs.NominalLaws.{from_second}
use Rattle.leap_unions.proofs.together.walks_of.Goals as goal

pub loop-first-init : goal.loop-first-init
loop-first-init c = record { long = refl; each = λ t k x ge lt less has. absurd (omega (arith, ge, lt)) }

pub add_from-requires : goal.add_from-requires
add_from-requires c = omega (arith, c.requires.kept.few, c.requires.begun, c.requires.ends, c.loop-first-test.true, c.requires.second)

pub loop-first-preserved : goal.loop-first-preserved
loop-first-preserved c =
    let kept = c.args.kept.now in
    let st = c.args._station in
    let p = c.args.p in
    let first : ℕ = c.loop-first.first in
    record {
      long = search rules;
      each = λ t k x ge lt less has.
          let few : k < 1200 = omega (arith, less, c.requires.few) in
          let old : ℕ = slice_index c.loop-first.sets k in
          let more : ℕ = slice_index kept.tape (60 * (first - kept.lo) + p + k) in
          ap (λ set. has_bit set x) (c.add_from.ensures k few) ∙ has_or old more x (elim (cases_lt t first) [
            | inl earlier ↦ inl (c.loop-first.invariant.each t k x ge earlier less has)
            | inr last ↦ (
                let same : t ≡ first = omega (arith, last, lt) in
                let at : 60 * (first - kept.lo) + p + k ≡ 60 * (first - kept.lo) + (p + k) = omega arith in
                let carried : more ≡ set_at st (announced_from p first) k =
                ap (slice_index kept.tape) at
                ∙ c.requires.kept.walk first (p + k) (omega (arith, c.requires.begun)) (omega (arith, c.loop-first-test.true, c.requires.ends)) (omega (arith, less, c.requires.second))
                ∙ ap (allowed st true) (from_second first p k c.requires.second) in
                inr (ap (λ set. has_bit set x) carried ∙ subst (λ (n : ℕ). has_bit (set_at st (announced_from p n) k) x ≡ true) same has))
          ]);
    }

pub returns : goal.returns
returns c = record {
  byte = λ k less. c.bytes_of.ensures k (omega (arith, less, c.requires.few));
  each = λ t k x ge lt less has. c.loop-first.invariant.each t k x ge (omega (arith, lt, c.loop-first-test.false)) less has;
}
