-- What can be found due of a command of frames.
use Rattle.std.specs.Prelude.{◌<◌, ◌≤◌, All, length}
use Rattle.signal_base.specs.declared.limits.TheConstants.{MOST_SECONDS, START_LIMIT}
use Rattle.signal_base.specs.declared.window.Window.{Window}
use Rattle.definitions.specs.declared.sequence.Sequence.{Sequence}
use Rattle.definitions.specs.sequences.Walks.{IsSequence, IsWalkable}
use Rattle.definitions.specs.time.Calendar.{century_minutes}
use Rattle.formats.specs.declared.frame.TheConstants.{MOST_FRAMES}
use Rattle.due.specs.declared.frame_due.FrameDue.{FrameDue}
use Rattle.due.specs.declared.frame_due.FrameDue.TheVariants.{BadLine, Frames, Read, Told, TooLarge}
use Rattle.bank.specs.Finding.{CanBeWritten as IsToBeTold}

-- the frames of a walk can be written: it is walkable, and the window's numbers are in their ranges
pub record IsToBeFramed (window : Window) (q : Sequence) : Type 0 where
  pub start : window.start < START_LIMIT
  pub phase : window.phase < 1000
  pub not_long : window.seconds ≤ MOST_SECONDS
  pub sequence : IsSequence q
  pub walkable : IsWalkable window q

-- its text can be written
abbrev pub CanBeWritten : FrameDue → Type 0
CanBeWritten (Told due) = IsToBeTold due
CanBeWritten (Frames window q) = IsToBeFramed window q
CanBeWritten (Read frames) = (length frames ≤ MOST_FRAMES) × All (λ frame. frame.minute < century_minutes) frames
CanBeWritten TooLarge = Unit {0}
CanBeWritten (BadLine line fault) = Unit {0}
