-- The frames of a decided answer: one for each slot of its window.
use Rattle.std.specs.Prelude.{ℕ, List, map}
use Rattle.std.specs.List.{range_with_len}
use Rattle.signal_base.specs.declared.window.Window.{Window}
use Rattle.definitions.specs.declared.sequence.Sequence.{Sequence}
use Rattle.definitions.specs.time.Places.{minute_of, second_of}
use Rattle.definitions.specs.sequences.Walks.{place_at}
use Rattle.formats.specs.declared.frame.Frame.{Frame}
use Rattle.formats.specs.Reports.{slot_begin}

-- the frame of slot k tells the second that the sequence puts there
abbrev pub walk_frame : Window → Sequence → ℕ → Frame
walk_frame window q k =
    record { at = slot_begin window k; minute = minute_of (place_at q k); second = second_of (place_at q k) }

abbrev pub walk_frames : Window → Sequence → List Frame
walk_frames window q = map (walk_frame window q) (range_with_len 0 window.seconds)
