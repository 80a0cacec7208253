-- The numbers so far.
use Rattle.std.proofs.Common.{length}
use Rattle.board.proofs.CountLaws.{SoFar}
use Rattle.board.proofs.counts.counts_of.Given as goal

abbrev pub invariant-loop-n : goal.invariant-loop-n
invariant-loop-n l = SoFar l.many (length l.entries) l.n l.counts.items
