-- The law, from its lemmas.
use Rattle.due.proofs.FrameReadLaws.{same_frame_due, same_frame_reads}
use Rattle.due.proofs.frame_laws.reads_decide_frames.Goals as goal

pub returns : goal.returns
returns c = record { due = same_frame_due; reads = same_frame_reads }
