-- The words name one file.
use Rattle.std.proofs.Common.{refl}
use Rattle.std.specs.Fmt.{digits}
use Rattle.definitions.specs.time.Calendar.{day_at}
use Rattle.due.specs.FrameRules.{Reads_frames}
use Rattle.due.proofs.FrameExampleLaws.{not_read, reading_asks}
use Rattle.due.proofs.frame_examples.two_frames_that_are_read.Goals as goal

pub returns-clause-text : goal.returns-clause-text
unfolding digits day_at
returns-clause-text c = refl

pub returns-clause-file : goal.returns-clause-file
returns-clause-file c = λ contents. Reads_frames reading_asks refl

pub returns-clause-other : goal.returns-clause-other
returns-clause-other c = not_read
