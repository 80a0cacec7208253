use Rattle.std.proofs.Common.{subst, arith}
use Rattle.minute_parts.specs.Parts.{IsPartTable}
use Rattle.walk_costs.proofs.RunLaws.{in_century}
use Rattle.field_tables.proofs.station_floor.piece_from.Goals as goal

pub end_of_piece-end-requires-clause-century : goal.end_of_piece-end-requires-clause-century
end_of_piece-end-requires-clause-century c =
    let table = subst IsPartTable c.parts-parts.ensures c.end.ensures.table in
    omega (arith, c.requires.regular.early, c.requires.some, in_century c.args.walks.now.parts table)
