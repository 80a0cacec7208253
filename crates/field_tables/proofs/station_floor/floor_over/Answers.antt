use Rattle.std.proofs.Common.{arith}
use Rattle.field_tables.proofs.station_floor.floor_over.Goals as goal

pub floor_over-requires-clause-walk : goal.floor_over-requires-clause-walk
floor_over-requires-clause-walk c =
    let are = c.in-Some.ensures.walks in
    rw (are.0, are.1, are.2, are.3) (c.requires.walks c.loop-t0.t0 (omega arith) (omega arith))
