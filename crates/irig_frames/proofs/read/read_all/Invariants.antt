-- The text up to the rest was read.
use Rattle.std.proofs.Common.{length}
use Rattle.formats.specs.FrameTexts.{IsReadTo}
use Rattle.formats.specs.FrameTexts.Next.{NextFrame}
use Rattle.irig_frames.proofs.read.read_all.Given as goal

abbrev pub invariant-loop-rest : goal.invariant-loop-rest
invariant-loop-rest l = IsReadTo l.bytes l.frames.items NextFrame l.rest

abbrev pub decreases-loop-rest : goal.decreases-loop-rest
decreases-loop-rest l = length l.rest
