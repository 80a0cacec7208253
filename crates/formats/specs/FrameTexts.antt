-- Which texts are those of frames in order, and where any other text first goes wrong.
use Rattle.std.specs.Prelude.{ℕ, ◌≡◌, ◌+◌, ◌*◌, ◌<◌, ◌≤◌, ◌⊎◌, true, List, [], ◌∷◌, ◌++◌, length, All}
use Rattle.definitions.specs.time.Calendar.{century_minutes, minute_length}
use Rattle.formats.specs.declared.frame.Frame.{Frame}
use Rattle.formats.specs.declared.frame.FrameLineFault.{FrameLineFault}
use Rattle.formats.specs.declared.frame.FrameLineFault.TheVariants.{Meaning, Shape, Timing, TooManyFrames}
use Rattle.formats.specs.declared.frame.TheConstants.{EDGE_LIMIT, ELEMENTS, ELEMENT_TIME, FRAME_LIMIT, FRAME_TIME, MOST_FRAMES}
use Rattle.formats.specs.Bytes.{letter_h, letter_l}
use Rattle.formats.specs.Frames.{edge, elements, frames_text, marker, pulses, width}

-- a second of a minute: it is below 60, or 60 in the last minute of a June or December
abbrev pub IsSecond : ℕ → ℕ → Type 0
IsSecond t second = (t < century_minutes) × (second < minute_length true t)

-- the millisecond is a second or more after the begin of the last of the frames
abbrev pub IsAfter : List Frame → ℕ → Type 0
IsAfter [] ms = Unit {0}
IsAfter (f ∷ []) ms = f.at + FRAME_TIME ≤ ms
IsAfter (f ∷ g ∷ fs) ms = IsAfter (g ∷ fs) ms

-- each frame begins a second or more after the one before
abbrev pub AreApart : List Frame → Type 0
AreApart [] = Unit {0}
AreApart (f ∷ []) = Unit {0}
AreApart (f ∷ g ∷ fs) = (f.at + FRAME_TIME ≤ g.at) × AreApart (g ∷ fs)

-- Frames in order: there aren't too many, each tells a second, and they begin apart, none too late.
pub record AreInOrder (frames : List Frame) : Type 0 where
  pub most : length frames ≤ MOST_FRAMES
  pub seconds : All (λ f. IsSecond f.minute f.second) frames
  pub starts : All (λ f. f.at < FRAME_LIMIT) frames
  pub apart : AreApart frames

-- the text is that of these frames, which are in order
abbrev pub IsTextOf : List Frame → List ℕ → Type 0
IsTextOf frames text = AreInOrder frames × (text ≡ frames_text frames)

-- What comes next in a text of frames: a frame, if the text goes on; or, in a frame that has begun, the rise or the fall of
-- an element. Of that frame it is known when it began and which elements are over.
pub data Next : Type 0 where
  NextFrame : Next
  Rise : (start : ℕ) (over : List ℕ) → Next
  Fall : (start : ℕ) (over : List ℕ) → Next

-- when the element begins that comes after these
abbrev pub next_start : ℕ → List ℕ → ℕ
next_start start over = start + ELEMENT_TIME * length over

-- what is written of the frame that has begun, and in how many lines
abbrev pub begun : Next → List ℕ
begun NextFrame = []
begun (Rise start over) = pulses start over
begun (Fall start over) = pulses start over ++ edge letter_h (next_start start over)

abbrev pub lines_begun : Next → ℕ
lines_begun NextFrame = 0
lines_begun (Rise start over) = 2 * length over
lines_begun (Fall start over) = 2 * length over + 1

-- an element is a zero, a one or a marker
abbrev pub IsElement : ℕ → Type 0
IsElement e = e ≤ marker

-- after these frames one more may begin at this millisecond
pub record MayBegin (frames : List Frame) (ms : ℕ) : Type 0 where
  pub room : length frames < MOST_FRAMES
  pub early : ms < FRAME_LIMIT
  pub after : IsAfter frames ms

-- after these frames this may come next
abbrev pub IsNext : List Frame → Next → Type 0
IsNext frames NextFrame = Unit {0}
IsNext frames (Rise start over) = MayBegin frames start × (0 < length over) × (length over < ELEMENTS) × All IsElement over
IsNext frames (Fall start over) = MayBegin frames start × (length over < ELEMENTS) × All IsElement over

-- What comes before the rest of the text is written of these frames and of the one that has begun.
pub record IsReadTo (text : List ℕ) (frames : List Frame) (next : Next) (rest : List ℕ) : Type 0 where
  pub order : AreInOrder frames
  pub begins : IsNext frames next
  pub parts : text ≡ frames_text frames ++ (begun next ++ rest)

-- which level begins at the edge that comes next
abbrev pub letter_at : Next → ℕ
letter_at NextFrame = letter_h
letter_at (Rise start over) = letter_h
letter_at (Fall start over) = letter_l

-- a text begins with the line of an edge at this millisecond, which has at most 13 digits
abbrev pub BeginsWithEdge : ℕ → List ℕ → ℕ → Type 0
BeginsWithEdge letter text ms = (ms < EDGE_LIMIT) × ((tail : List ℕ) × (text ≡ edge letter ms ++ tail))

-- nothing is left, where a text may end
abbrev pub IsOver : Next → List ℕ → Type 0
IsOver NextFrame rest = rest ≡ []
IsOver (Rise start over) rest = ⊥
IsOver (Fall start over) rest = ⊥

-- one frame more isn't too many, where one begins
abbrev pub HasRoom : List Frame → Next → Type 0
HasRoom frames NextFrame = length frames < MOST_FRAMES
HasRoom frames (Rise start over) = Unit {0}
HasRoom frames (Fall start over) = Unit {0}

-- An edge may stand at this millisecond: a frame begins early enough and a second or more after the one before, an element
-- 10 ms after the one before, and it ends as a zero, a one or a marker does.
abbrev pub IsTimely : List Frame → Next → ℕ → Type 0
IsTimely frames NextFrame ms = (ms < FRAME_LIMIT) × IsAfter frames ms
IsTimely frames (Rise start over) ms = ms ≡ next_start start over
IsTimely frames (Fall start over) ms = (e : ℕ) × IsElement e × (ms ≡ next_start start over + width e)

-- elements tell a second
abbrev pub TellASecond : List ℕ → Type 0
TellASecond es = (t : ℕ) × (second : ℕ) × IsSecond t second × (elements t second ≡ es)

-- where the edge ends the last element of a frame, the frame's elements tell a second
abbrev pub HasMeaning : Next → ℕ → Type 0
HasMeaning NextFrame ms = Unit {0}
HasMeaning (Rise start over) ms = Unit {0}
HasMeaning (Fall start over) ms =
    (e : ℕ) → IsElement e → ms ≡ next_start start over + width e → length over + 1 ≡ ELEMENTS → TellASecond (over ++ e ∷ [])

-- The line that comes next is bad in this way: it is no line of the edge that is due, or there is none; it begins a frame
-- too many; it stands at a wrong time; it ends a frame that tells no second. The first of these counts.
abbrev pub IsBadNext : List Frame → Next → List ℕ → FrameLineFault → Type 0
IsBadNext frames next rest Shape = ¬ (IsOver next rest) × ((ms : ℕ) → ¬ (BeginsWithEdge (letter_at next) rest ms))
IsBadNext frames next rest TooManyFrames = (ms : ℕ) × BeginsWithEdge (letter_at next) rest ms × ¬ (HasRoom frames next)
IsBadNext frames next rest Timing =
    (ms : ℕ) × BeginsWithEdge (letter_at next) rest ms × HasRoom frames next × ¬ (IsTimely frames next ms)
IsBadNext frames next rest Meaning =
    (ms : ℕ) × BeginsWithEdge (letter_at next) rest ms × HasRoom frames next × IsTimely frames next ms × ¬ (HasMeaning next ms)

-- the number of the line that is due, counted from 1
abbrev pub line_due : List Frame → Next → ℕ
line_due frames next = 2 * ELEMENTS * length frames + lines_begun next + 1

-- the first bad line of the text has this number, and is bad in this way
pub record IsRefused (text : List ℕ) (number : ℕ) (fault : FrameLineFault) : Type 0 where
  pub frames : List Frame
  pub next : Next
  pub rest : List ℕ
  pub read : IsReadTo text frames next rest
  pub is_due : number ≡ line_due frames next
  pub bad : IsBadNext frames next rest fault

-- the text is that of frames in order, or it is refused for its first bad line
abbrev pub HasOutcome : List ℕ → Type 0
HasOutcome text =
    ((frames : List Frame) × IsTextOf frames text)
    ⊎ ((number : ℕ) × (fault : FrameLineFault) × IsRefused text number fault)
