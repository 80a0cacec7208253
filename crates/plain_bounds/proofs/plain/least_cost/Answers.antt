-- The least so far is that of the sequences that begin before the minute that is looked at.
use Rattle.std.proofs.Common.{◌+◌, sym, subst, arith}
use Rattle.definitions.specs.declared.sequence.Sequence.{Sequence}
use Rattle.field_tables.specs.Grids.{grid_costs}
use Rattle.plain_bounds.specs.Floors.{IsLegalCost}
use Rattle.plain_bounds.proofs.LeastLaws.{IsLeastBefore, least_of_all, least_of_none, least_with}
use Rattle.plain_bounds.proofs.plain.least_cost.Goals as goal

pub loop-first-init : goal.loop-first-init
loop-first-init c = let case = c.args.case.now in least_of_none (grid_costs case.grids.now) case.window c.args.block.now

pub loop-first-preserved : goal.loop-first-preserved
loop-first-preserved c =
    let case = c.args.case.now in
    let costs = grid_costs case.grids.now in
    let b = c.args.block.now in
    let t = c.loop-first.first in
    let next = c.legal_cost.result in
    let cost = subst (λ (q : Sequence). IsLegalCost costs case.window q next) c.sequence_from-q.ensures c.legal_cost.ensures in
    subst (IsLeastBefore costs case.window b (t + 1)) (sym c.lesser-least.ensures)
    (least_with costs case.window b t c.loop-first.least next (omega arith) (omega arith) cost c.loop-first.invariant)

pub returns : goal.returns
returns c =
    let case = c.args.case.now in
    least_of_all (grid_costs case.grids.now) case.window c.args.block.now c.loop-first.first c.loop-first.least c.loop-first-test.false c.loop-first.invariant
