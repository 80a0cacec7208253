use Rattle.std.proofs.Common.{ap, arith}
use Rattle.minute_parts.specs.declared.runs.Run.{Run}
use Rattle.walk_costs.proofs.RunLaws.{begins_in_century}
use Rattle.walk_costs.proofs.change.add_change.Goals as goal

pub local_time-from-requires : goal.local_time-from-requires
local_time-from-requires c =
    omega (arith, begins_in_century c.args.parts.now c.requires.table c.args.run c.requires.run.1, ap (λ (r : Run). r.first) c.run-next.ensures)

pub local_time-to-requires : goal.local_time-to-requires
local_time-to-requires c =
    omega (arith, begins_in_century c.args.parts.now c.requires.table c.args.run c.requires.run.1, ap (λ (r : Run). r.first) c.run-next.ensures)
