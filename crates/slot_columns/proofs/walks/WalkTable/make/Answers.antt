use Rattle.std.proofs.Common.{subst}
use Rattle.symbol_cost.specs.Grid.{Grid}
use Rattle.slot_columns.specs.Parts.{AreWalkCosts}
use Rattle.slot_columns.proofs.WalkLaws.{walk_costs}
use Rattle.slot_columns.proofs.walks.WalkTable.make.Goals as goal

pub returns : goal.returns
returns c =
    subst (λ (g : Grid). AreWalkCosts c.in_ok-costs.costs.items g c.args.times.now) c.columns.view_is
    (walk_costs c.columns.inside.slots c.in_ok-costs.costs.items c.args.times.now c.columns.invariant.bounded c.in_ok-costs.ensures.costs)
