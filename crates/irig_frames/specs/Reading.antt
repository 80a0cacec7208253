-- What reading frames owes, and which line a fault names.
use Rattle.std.specs.Prelude.{◌≡◌, ℕ, ◌+◌, List, Option, Some, None, IfSome}
use Rattle.formats.specs.declared.frame.Frame.{Frame}
use Rattle.formats.specs.declared.frame.FrameLineFault.{FrameLineFault}
use Rattle.formats.specs.declared.frame.FrameLineFault.TheVariants as lines
use Rattle.formats.specs.Frames.{width}
use Rattle.formats.specs.FrameTexts.{IsBadNext, IsElement, IsReadTo, IsRefused, Next, line_due}
use Rattle.irig_frames.specs.declared.fault.FrameFault.{FrameFault}
use Rattle.irig_frames.specs.declared.fault.FrameFault.TheVariants.{Meaning, NoMemory, Shape, Timing, TooManyFrames}

-- the line that a fault names, and how it is bad; want of memory names none
abbrev pub bad_line_of : FrameFault → Option (ℕ × FrameLineFault)
bad_line_of (Shape line) = Some (line, lines.Shape)
bad_line_of (Timing line) = Some (line, lines.Timing)
bad_line_of (Meaning line) = Some (line, lines.Meaning)
bad_line_of (TooManyFrames line) = Some (line, lines.TooManyFrames)
bad_line_of NoMemory = None

-- the line that a fault names is the first bad one of the text, and bad in this way
abbrev pub IsFaultOf : List ℕ → FrameFault → Type 0
IsFaultOf text fault = IfSome (bad_line_of fault) (λ bad. IsRefused text bad.0 bad.1)

-- it is the line that comes next, and bad in this way
abbrev pub IsFaultAt : List Frame → Next → List ℕ → FrameFault → Type 0
IsFaultAt frames next rest fault =
    IfSome (bad_line_of fault) (λ bad. (bad.0 ≡ line_due frames next) × IsBadNext frames next rest bad.1)

-- it is the first bad one of any text that was read up to here
abbrev pub IsFaultFrom : List Frame → Next → List ℕ → FrameFault → Type 0
IsFaultFrom frames next rest fault = (text : List ℕ) → IsReadTo text frames next rest → IsFaultOf text fault

-- a text that was read up to here is read up to there
abbrev pub GoesOn : List Frame → Next → List ℕ → List Frame → Next → List ℕ → Type 0
GoesOn frames next rest more after tail = (text : List ℕ) → IsReadTo text frames next rest → IsReadTo text more after tail

-- this line is named, and how it is bad, or memory ran out
abbrev pub HasRefusedLine : ℕ → FrameLineFault → FrameFault → Type 0
HasRefusedLine line fault found = IfSome (bad_line_of found) (λ bad. (bad.0 ≡ line) × (bad.1 ≡ fault))

-- the element begins and becomes low at these milliseconds
abbrev pub IsElementAt : ℕ → ℕ → ℕ → Type 0
IsElementAt begin low element = IsElement element × (low ≡ begin + width element)
