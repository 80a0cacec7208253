-- The grid is found, since the window has the station.
use Rattle.std.proofs.Common.{List, sym, ap, ◌∙◌}
use Rattle.formats.specs.Heard.{costs_of}
use Rattle.symbol_cost.specs.Grid.{Grid}
use Rattle.plain_costs.specs.Grids.{grid_of}
use Rattle.heard.specs.Seen.{hearing_seen}
use Rattle.heard.proofs.GridLaws.{its_grid, not_missing}
use Rattle.heard.proofs.hearing.Hearing.grid_for.Goals as goal

pub unreachable-requires : goal.unreachable-requires
unreachable-requires c =
    let self = c.args.self.now in
    not_missing self.window self.grids.items c.args.station self.kept.grids_are c.requires
    (ap (λ (gs : List Grid). grid_of gs c.args.station) (sym c.as_slice.ensures.value) ∙ c.in-None.ensures)

pub returns : goal.returns
returns c =
    let self = c.args.self.now in
    let it = its_grid self.window self.grids.items (costs_of (hearing_seen self)) c.args.station c.in-Some.grid.now self.kept.grids_are self.kept.costs_are c.requires
    (ap (λ (gs : List Grid). grid_of gs c.args.station) (sym c.as_slice.ensures.value) ∙ c.in-Some.ensures) in
    record { of_station = it.of_station; has = it.has }
