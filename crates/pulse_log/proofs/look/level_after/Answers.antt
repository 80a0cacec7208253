-- The last of the first records has the level.
use Rattle.std.proofs.Common.{◌<◌, arith, sym}
use Rattle.definitions.specs.declared.level.Level.TheVariants.{High}
use Rattle.pulse_log.proofs.PlaceLaws.{level_after-known}
use Rattle.pulse_log.proofs.look.level_after.Goals as goal

pub returns-else-count-records : goal.returns-else-count-records
returns-else-count-records c =
    let some : 0 < c.args.count = grind arith in
    sym (level_after-known c.args.records.now c.args.count (0, High) some (omega arith))
