use Rattle.std.proofs.Common.{List, ℕ, subst}
use Rattle.symbol_cost.specs.Grid.{Grid}
use Rattle.slot_columns.specs.Layered.{AreLayerCosts}
use Rattle.block_costs.proofs.KeptLaws.{kept_costs}
use Rattle.block_costs.proofs.kept.costs_of.Goals as goal

pub returns : goal.returns
returns c =
    let w = c.args.walks.now in
    let own = c.args.gathered in
    let costs = c.in_ok-costs.costs in
    kept_costs w own.ranges.items own.firsts.items own.rests.items costs c.requires
    (subst (λ (ys : List (List ℕ)). AreLayerCosts costs w.grid own.firsts.items ys) c.deref-2.ensures.value
    (subst (λ (xs : List (List ℕ)). AreLayerCosts costs w.grid xs c.deref-2.result.now) c.deref.ensures.value
    (subst (λ (g : Grid). AreLayerCosts costs g c.deref.result.now c.deref-2.result.now) c.columns.ensures.columns c.in_ok-costs.ensures)))
