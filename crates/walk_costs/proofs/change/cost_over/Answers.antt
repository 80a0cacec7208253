use Rattle.std.proofs.Common.{ℕ, List, length, sym, ap, ◌∙◌, arith}
use Rattle.symbol_cost.specs.Grid.{cost_at}
use Rattle.minute_parts.specs.Parts.{times_at}
use Rattle.slot_columns.specs.Parts.{minute_cost}
use Rattle.walk_costs.proofs.OverLaws.{all_minutes, none_before, one_more_minute}
use Rattle.walk_costs.proofs.change.cost_over.Goals as goal

pub loop-m-init : goal.loop-m-init
loop-m-init c = record { cost = sym (none_before c.args.columns.now c.args.parts.now.times c.args.u c.args.v c.args.b c.args.p); bound = omega arith }

pub loop-m-preserved : goal.loop-m-preserved
loop-m-preserved c =
    let grid = c.args.columns.now in
    let part = c.time_part-part.ensures ∙ ap (times_at c.args.parts.now) c.time_over.ensures.minute in
    let minute = c.minute_cost-cost.ensures.cost ∙ ap (λ (xs : List ℕ). minute_cost grid.station (cost_at grid.rows) (length grid.rows) c.args.p c.loop-m.m xs) part in
    record {
      cost = omega (arith, c.loop-m.invariant.cost, minute, one_more_minute grid c.args.parts.now.times c.args.u c.args.v c.args.b c.args.p c.loop-m.m);
      bound = omega (arith, c.loop-m.invariant.bound, c.minute_cost-cost.ensures.bound, c.receivers.ensures.count, c.receivers.ensures.bound);
    }

pub returns : goal.returns
returns c =
    c.loop-m.invariant.cost
    ∙ all_minutes c.args.columns.now c.args.parts.now.times c.args.u c.args.v c.args.b c.args.p c.loop-m.m (omega (arith, c.later_minutes.ensures.count, c.seconds.ensures.count))
