use Rattle.std.proofs.Common.{refl, ap, ◌++◌, sym, arith}
use Rattle.std.proofs.lemmas.List.{append-nil}
use Rattle.definitions.specs.time.Calendar.{day_at}
use Rattle.formats.specs.Examples.{frame_at}
use Rattle.formats.specs.Frames.{frame_text}
use Rattle.formats.proofs.FrameExampleLaws.{morning, order-nil, two_frames}
use Rattle.formats.proofs.examples.frames.good_frames.Goals as goal

pub returns-clause-none : goal.returns-clause-none
returns-clause-none c = (order-nil, refl)

pub returns-clause-two : goal.returns-clause-two
returns-clause-two c =
    (two_frames, ap (λ l. frame_text (frame_at 0 morning 0) ++ l) (sym (append-nil (frame_text (frame_at 1000 morning 1)))))

pub returns-clause-leap_second : goal.returns-clause-leap_second
unfolding day_at
returns-clause-leap_second c = (omega arith, omega arith)

pub returns-clause-no_leap_second : goal.returns-clause-no_leap_second
unfolding day_at
returns-clause-no_leap_second c = λ is. omega (arith, is.1)
