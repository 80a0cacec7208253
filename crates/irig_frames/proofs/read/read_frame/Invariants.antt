-- A frame began, its elements so far are over, and less of the text is left.
use Rattle.std.proofs.Common.{◌-◌, length}
use Rattle.irig_frames.proofs.ReadLaws.{IsWithin}
use Rattle.irig_frames.proofs.read.read_frame.Given as goal

abbrev pub invariant-loop-over : goal.invariant-loop-over
invariant-loop-over l = IsWithin l.frames l.text l.start l.over.items l.rest

abbrev pub decreases-loop-over : goal.decreases-loop-over
decreases-loop-over l = 100 - length l.over.items
