-- The low milliseconds before the present one are counted, and its place is known.
use Rattle.std.proofs.Common.{◌-◌, length}
use Rattle.pulse_log.proofs.CountLaws.{IsCounted}
use Rattle.pulse_log.proofs.look.low_from.Given as goal

abbrev pub invariant-loop-count : goal.invariant-loop-count
invariant-loop-count l = IsCounted l.records l.from l.to l.at l.count l.low

abbrev pub decreases-loop-count : goal.decreases-loop-count
decreases-loop-count l = length l.records - l.count
