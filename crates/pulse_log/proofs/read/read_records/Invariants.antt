-- The lines before the rest were read.
use Rattle.std.proofs.Common.{◌+◌, ◌≤◌, length}
use Rattle.pulse_log.proofs.ReadLaws.{HasRead}
use Rattle.pulse_log.proofs.read.read_records.Given as goal

abbrev pub invariant-loop-rest : goal.invariant-loop-rest
invariant-loop-rest l = record {
  so_far : HasRead l.bytes l.rest l.number l.records.items;
  small : l.number + length l.rest ≤ length l.bytes;
}

abbrev pub decreases-loop-rest : goal.decreases-loop-rest
decreases-loop-rest l = length l.rest
