-- The orders that the words give.
use Rattle.std.proofs.Common.{refl}
use Rattle.std.specs.Fmt.{digits}
use Rattle.formats.specs.WordValues.{number_of}
use Rattle.due.proofs.frame_examples.what_is_asked_of_frames.Goals as goal

pub returns-clause-irig : goal.returns-clause-irig
unfolding digits number_of
returns-clause-irig c = (4, refl)

pub returns-clause-read : goal.returns-clause-read
unfolding digits number_of
returns-clause-read c = refl
