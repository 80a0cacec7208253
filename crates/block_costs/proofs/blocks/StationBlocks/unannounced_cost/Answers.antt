use Rattle.std.proofs.Common.{◌+◌, ◌≡◌, false, length, sym, subst, arith}
use Rattle.block_costs.specs.Blocks.{AreUnionsOfWalks}
use Rattle.block_costs.proofs.blocks.StationBlocks.unannounced_cost.Goals as goal

pub returns-then-walks-clause-cost : goal.returns-then-walks-clause-cost
returns-then-walks-clause-cost c = λ sets unions.
    let w = c.args.self.now in
    let b = c.args.walks.now in
    let end : b.hi ≡ b.lo + 60 = omega (arith, c.if-walks.true, b.some) in
    c.hour_cost.ensures.cost_is sets
    (subst (λ a. AreUnionsOfWalks w.grid.station a b.second b.lo (b.lo + 60) (length w.grid.rows) sets) (sym c.requires.unannounced)
    (subst (λ e. AreUnionsOfWalks w.grid.station false b.second b.lo e (length w.grid.rows) sets) end unions))
