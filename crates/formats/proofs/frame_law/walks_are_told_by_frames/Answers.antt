use Rattle.std.proofs.Common.{refl}
use Rattle.formats.proofs.FrameWalkLaws.{walk_in_order}
use Rattle.formats.proofs.frame_law.walks_are_told_by_frames.Goals as goal

pub returns : goal.returns
returns c = λ window q walks short early phase. (walk_in_order window q walks short early phase, refl)
