use Rattle.std.proofs.Common.{◌≤◌, ℕ, ◌+◌, ◌-◌, ◌*◌, length, subst, sym, ap, ◌∙◌, arith}
use Rattle.definitions.proofs.CostLaws.{sum_below_more}
use Rattle.symbol_cost.specs.Grid.{Grid, cost_at}
use Rattle.symbol_cost.specs.declared.limits.TheConstants.{RECEIVER_COST}
use Rattle.slot_columns.specs.Parts.{minute_cost}
use Rattle.slot_columns.proofs.MinuteLaws.{in_minute, inside, minute_bound, outside, same_sum}
use Rattle.slot_columns.proofs.SumLaws.{sum_of_none}
use Rattle.slot_columns.proofs.columns.SlotColumns.minute_cost.Goals as goal

pub loop-k-init : goal.loop-k-init
loop-k-init c =
    let grid = c.self.inside.slots in
    record {
      cost = sym (sum_of_none c.saturating_sub-from.result (in_minute grid c.args.p c.args.m c.args.part.now)
          (λ k lt. outside grid c.args.p c.args.m c.args.part.now k (λ e. omega arith)));
      reached = omega arith;
      bound = omega arith;
    }

pub loop-k-preserved : goal.loop-k-preserved
loop-k-preserved c =
    let k = c.loop-k.k in
    let grid = c.self.inside.slots in
    let s : ℕ = c.args.p + k - 60 * c.args.m in
    let here = inside grid c.args.p c.args.m c.args.part.now k s (omega arith) (omega arith) in
    record {
      cost = omega (arith, c.loop-k.invariant.cost, sum_below_more k (in_minute grid c.args.p c.args.m c.args.part.now), here, c.cost-cost.ensures.cost);
      reached = omega arith;
      bound = omega (arith, c.loop-k.invariant.bound, c.cost-cost.ensures.small);
    }

pub returns-clause-cost : goal.returns-clause-cost
returns-clause-cost c =
    let grid = c.self.inside.slots in
    let n : ℕ = length grid.rows in
    c.loop-k.invariant.cost
    ∙ same_sum c.loop-k.k n (in_minute grid c.args.p c.args.m c.args.part.now)
    (λ i le within. outside grid c.args.p c.args.m c.args.part.now i (λ e. omega arith))
    (λ i le lt. outside grid c.args.p c.args.m c.args.part.now i (λ e. omega arith))
    ∙ ap (λ (g : Grid). minute_cost g.station (cost_at g.rows) (length g.rows) c.args.p c.args.m c.args.part.now) c.self.view_is

pub returns-clause-bound : goal.returns-clause-bound
returns-clause-bound c =
    let bounded = c.self.invariant.bounded in
    omega (
      arith,
      returns-clause-cost c,
      subst (λ (g : Grid). minute_cost g.station (cost_at g.rows) (length g.rows) c.args.p c.args.m c.args.part.now ≤ 60 * (g.receivers * RECEIVER_COST))
          c.self.view_is
          (minute_bound c.self.inside.slots c.args.p c.args.m c.args.part.now bounded c.requires),
    )
