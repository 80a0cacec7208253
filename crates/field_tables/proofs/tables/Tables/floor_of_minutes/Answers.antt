use Rattle.field_tables.specs.Floors.{piece}
use Rattle.field_tables.proofs.FloorLaws.{floor_of_tables}
use Rattle.field_tables.proofs.tables.Tables.floor_of_minutes.Goals as goal

pub returns-clause-floor : goal.returns-clause-floor
returns-clause-floor c =
    let inside = c.self.inside in
    floor_of_tables inside.window inside.grids.now inside.sums c.args.self.now c.self.invariant.0 c.self.view_is
    (piece c.args.block.now c.args.lo c.args.hi) c.floor.result c.floor.ensures.floor
