use Rattle.std.proofs.Common.{◌∙◌, ap, sym}
use Rattle.signal_base.specs.Number.{number_of}
use Rattle.plain_costs.proofs.GridLaws.{first_grid, no_grid}
use Rattle.plain_costs.proofs.grids.grid_of.Goals as goal

pub returns-then-number : goal.returns-then-number
returns-then-number c =
    first_grid c.args.grids.now c.args.station c.loop-grid.grid-index c.grid-item.result c.loop-grid.invariant c.loop-grid-test.true c.grid-item.is
    (ap number_of (sym c.station.ensures) ∙ sym c.number.ensures ∙ c.if-number.true ∙ c.number-in-loop-grid.ensures)

pub returns : goal.returns
returns c = no_grid c.args.grids.now c.args.station c.loop-grid.grid-index c.loop-grid.invariant c.loop-grid-test.false
