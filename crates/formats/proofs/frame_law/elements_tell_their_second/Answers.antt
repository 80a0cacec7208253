use Rattle.formats.proofs.FrameTellLaws.{minute_is_told, second_is_told}
use Rattle.formats.proofs.frame_law.elements_tell_their_second.Goals as goal

pub returns : goal.returns
returns c = record { minute = minute_is_told; second = second_is_told }
