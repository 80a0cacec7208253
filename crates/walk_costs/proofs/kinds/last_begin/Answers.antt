use Rattle.std.proofs.Common.{arith}
use Rattle.walk_costs.proofs.RunLaws.{ends, in_century}
use Rattle.walk_costs.proofs.kinds.last_begin.Goals as goal

pub local_time-requires : goal.local_time-requires
local_time-requires c =
    let parts = c.args.parts.now in
    omega (arith, c.run_end.ensures, c.requires.table.rise c.args.run c.requires.run, ends parts c.requires.table c.args.run c.requires.run, in_century parts c.requires.table)
