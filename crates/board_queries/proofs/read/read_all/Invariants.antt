-- The text up to the rest was read.
use Rattle.std.proofs.Common.{length}
use Rattle.board_queries.proofs.ReadLaws.{IsReadTo}
use Rattle.board_queries.proofs.read.read_all.Given as goal

abbrev pub invariant-loop-rest : goal.invariant-loop-rest
invariant-loop-rest l = IsReadTo l.bytes l.queries.items l.rest

abbrev pub decreases-loop-rest : goal.decreases-loop-rest
decreases-loop-rest l = length l.rest
