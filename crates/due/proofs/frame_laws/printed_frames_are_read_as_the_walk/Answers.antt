-- The law, from its lemmas.
use Rattle.std.proofs.Common.{refl}
use Rattle.due.proofs.FrameTextLaws.{due_in_order, printed_is_read}
use Rattle.due.proofs.frame_laws.printed_frames_are_read_as_the_walk.Goals as goal

pub returns : goal.returns
returns c = record {
  text = λ words contents window q due. (due_in_order contents window q words due, refl);
  read = λ words reading contents later window q file. printed_is_read contents window q words reading later file;
}
