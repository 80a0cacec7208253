-- The status, the text and the output of what the commands of frames owe.
use Rattle.std.specs.Prelude.{ℕ, false, List, [], ◌∷◌}
use Rattle.formats.specs.Frames.{frame_list, frames_text}
use Rattle.formats.specs.FrameWalks.{walk_frames}
use Rattle.formats.specs.Refusals.{frame_fault_line, frames_too_large}
use Rattle.due.specs.declared.frame_due.FrameDue.{FrameDue}
use Rattle.due.specs.declared.frame_due.FrameDue.TheVariants.{BadLine, Frames, Read, Told, TooLarge}
use Rattle.due.specs.declared.status.Status.{Status}
use Rattle.due.specs.declared.status.Status.TheVariants.{BadFrames, Done}
use Rattle.due.specs.Dues.{status_of, text_of}
use Rattle.due.specs.Outputs.{Output, standard_output}

-- the status with which a run ends that told this
abbrev pub frame_status : FrameDue → Status
frame_status (Told due) = status_of due
frame_status (Frames window q) = Done
frame_status (Read frames) = Done
frame_status TooLarge = BadFrames
frame_status (BadLine line fault) = BadFrames

-- the bytes that a run adds to standard output
abbrev pub frame_due_text : FrameDue → List ℕ
frame_due_text (Told due) = text_of due
frame_due_text (Frames window q) = frames_text (walk_frames window q)
frame_due_text (Read frames) = frame_list frames
frame_due_text TooLarge = frames_too_large
frame_due_text (BadLine line fault) = frame_fault_line line fault

-- all that a run writes that owes this
abbrev pub frame_outputs : FrameDue → List Output
frame_outputs due = record { file = standard_output; anew = false; text = frame_due_text due } ∷ []
