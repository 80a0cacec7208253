-- The law, from its lemmas.
use Rattle.due.proofs.FrameDueLaws.{one_frame_due, some_frame_due}
use Rattle.due.proofs.frame_laws.one_thing_is_due_of_frames.Goals as goal

pub returns : goal.returns
returns c = record { some = λ words contents. some_frame_due contents words; one = λ words contents. one_frame_due contents words }
