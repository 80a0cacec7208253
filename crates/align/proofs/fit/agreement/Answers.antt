use Rattle.std.proofs.Common.{◌≡◌, ℕ, ◌+◌, ◌-◌, ◌*◌, ◌%◌, get_or, ap, sym, ◌∙◌, arith}
use Rattle.definitions.specs.heard.Costs.{sum_below}
use Rattle.definitions.proofs.CostLaws.{sum_below_none, sum_below_more}
use Rattle.align.proofs.TurnLaws.{near}
use Rattle.align.proofs.fit.agreement.Goals as goal

pub loop-i-init : goal.loop-i-init
loop-i-init c =
    let f = λ (i : ℕ). get_or c.args.counts.now ((c.args.f + 1000 - 50 + i) % 1000) 0 * (50 - ((i - 50) + (50 - i))) in
    record { sum = omega (arith, sum_below_none f, sum_below_more 0 f); bound = omega arith }

pub loop-i-preserved : goal.loop-i-preserved
loop-i-preserved c =
    let i = c.loop-i.i in
    let f = λ (i : ℕ). get_or c.args.counts.now ((c.args.f + 1000 - 50 + i) % 1000) 0 * (50 - ((i - 50) + (50 - i))) in
    let term = c.weighed-sum.ensures.product ∙ ap (λ d. get_or c.args.counts.now ((c.args.f + 1000 - 50 + i) % 1000) 0 * (50 - d)) c.abs_diff-left.ensures in
    record {
      sum = omega (arith, c.loop-i.invariant.sum, sum_below_more i f, term);
      bound = omega arith;
    }

pub returns : goal.returns
returns c =
    let f = λ (i : ℕ). get_or c.args.counts.now ((c.args.f + 1000 - 50 + i) % 1000) 0 * (50 - ((i - 50) + (50 - i))) in
    let end : c.loop-i.i ≡ 100 = omega arith in
    c.loop-i.invariant.sum ∙ ap (λ n. sum_below n f) end ∙ sym (near c.args.counts.now c.args.f c.requires.phase)
