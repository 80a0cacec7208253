use Rattle.std.proofs.Common.{◌≡◌, ℕ, get_or, Option, Some, min, ap, ◌∙◌, rules, sym}
use Rattle.definitions.proofs.CostLaws.{lesser_with}
use Rattle.symbol_cost.proofs.CountLaws.{least_first-more}
use Rattle.symbol_cost.proofs.RowLaws.{lesser_of}
use Rattle.symbol_cost.proofs.second.least_of.Goals as goal

pub loop-y-preserved : goal.loop-y-preserved
loop-y-preserved c =
    let f = λ (y : ℕ). min c.args.most (get_or c.args.costs.now y 0) in
    let x = c.loop-y.y in
    let cost : c.min-cost.result ≡ f x = c.min-cost.ensures ∙ search rules in
    record {
      least = ap Some c.min.ensures ∙ ap (λ n. Some (min n c.min-cost.result)) c.unwrap_or.ensures ∙ lesser_of c.loop-y.least c.min-cost.result
          ∙ ap (lesser_with c.loop-y.least) cost ∙ ap (λ (o : Option ℕ). lesser_with o (f x)) c.loop-y.invariant.least ∙ sym (least_first-more f x);
    }
