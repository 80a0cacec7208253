use Rattle.std.proofs.Common.{◌≡◌, ℕ, ◌+◌, ◌-◌, ◌<◌, ◌≤◌, sym, ap, ◌∙◌, arith}
use Rattle.definitions.specs.heard.Phase.{circular_distance, first_maximum}
use Rattle.align.specs.Counters.{tally}
use Rattle.align.proofs.FitLaws.{first_maximum_none, first_maximum-higher, first_maximum-lower}
use Rattle.align.proofs.fit.best.Goals.{then-most-agreement, else-most-agreement}
use Rattle.align.proofs.fit.best.Goals as goal

pub loop-f-init : goal.loop-f-init
loop-f-init c = record {
  best = sym (first_maximum_none (λ f. tally c.args.counts.now (λ o. 50 - circular_distance o f)));
  most = c.agreement-most.ensures;
}

pub loop-f-preserved : goal.loop-f-preserved
loop-f-preserved c =
    let h = λ (f : ℕ). tally c.args.counts.now (λ o. 50 - circular_distance o f) in
    let f = c.loop-f.f in
    let best = c.loop-f.best in
    let inv = c.loop-f.invariant in
    let here : f + 1 - 1 ≡ f = omega arith in
    let agreed = c.agreement-agreement.ensures in
    elim c.if-most-agreement.branch [
      | then-most-agreement w ↦ (let higher : h best < h f = omega arith in record {
        best = w.best-is ∙ sym (ap (first_maximum h) here ∙ first_maximum-higher h best f (omega arith) inv.best higher);
        most = w.most-is ∙ agreed ∙ ap h (sym w.best-is);
      })
      | else-most-agreement w ↦ (let lower : h f ≤ h best = omega arith in record {
        best = w.best-is ∙ sym (ap (first_maximum h) here ∙ first_maximum-lower h best f (omega arith) inv.best lower);
        most = w.most-is ∙ inv.most ∙ ap h (sym w.best-is);
      })
    ]

pub returns : goal.returns
returns c =
    let h = λ (f : ℕ). tally c.args.counts.now (λ o. 50 - circular_distance o f) in
    let end : c.loop-f.f - 1 ≡ 999 = omega arith in
    c.loop-f.invariant.best ∙ ap (first_maximum h) end
