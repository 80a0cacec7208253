use Rattle.std.proofs.Common.{◌≡◌, inl, inr, min, get_or, ap, ◌∙◌, arith}
use Rattle.std.proofs.Math.Nat.{min-eq_left, min-eq_right, min-le_left, min-le_right}
use Rattle.std.proofs.lemmas.Bool.{cases_lt}
use Rattle.slot_columns.proofs.split.least_of_first.Goals as goal

pub loop-b-preserved : goal.loop-b-preserved
loop-b-preserved c =
    let costs = c.args.costs.now in
    let b = c.loop-b.b in
    let old = c.loop-b.least in
    let cost = get_or costs b 0 in
    let is = c.min-least.ensures in
    record {
      floor = λ d some lt. elim (cases_lt d b) [
        | inl less ↦ omega (arith, is, min-le_left old cost, c.loop-b.invariant.floor d some less)
        | inr le ↦ (let here : d ≡ b = omega (arith, lt, le) in omega (arith, is, min-le_right old cost, ap (λ x. get_or costs x 0) here))
      ];
      none = λ e. absurd (omega (arith, e, c.loop-b.auto.b));
      found = λ more. elim (cases_lt old cost) [
        | inl less ↦ elim (cases_lt 1 b) [
          | inl later ↦ (
              let before = c.loop-b.invariant.found later in
              let kept : min old cost ≡ old = min-eq_left (omega (arith, less)) in
              (before.0, before.1, omega (arith, before.2), omega (arith, is, kept, before.3)))
          | inr first ↦ absurd (omega (arith, c.loop-b.invariant.none (omega (arith, first, c.loop-b.auto.b)), less, c.fits-costs b))
        ]
        | inr le ↦ (b, c.loop-b.auto.b, omega arith, is ∙ min-eq_right le)
      ];
    }
