-- The rules of what the commands of frames owe for their words and for the bytes that they read; and which files they read.
use Rattle.std.specs.Prelude.{ℕ, ◌≡◌, ◌<◌, ◌≤◌, List, Err, length}
use Rattle.signal_base.specs.declared.window.Window.{Window}
use Rattle.definitions.specs.declared.answer.Answer.{Answer}
use Rattle.definitions.specs.declared.answer.Answer.TheVariants as answers
use Rattle.definitions.specs.heard.Logs.{Records}
use Rattle.formats.specs.declared.frame.Frame.{Frame}
use Rattle.formats.specs.declared.frame.FrameLineFault.{FrameLineFault}
use Rattle.formats.specs.declared.frame.TheConstants.{FRAMES_LIMIT}
use Rattle.formats.specs.declared.refusal.Refusal.{Refusal}
use Rattle.formats.specs.declared.words.Asked.{Asked}
use Rattle.formats.specs.declared.words.WordFault.{WordFault}
use Rattle.formats.specs.FrameTexts.{IsRefused, IsTextOf}
use Rattle.bank_config.specs.Configuration.{PlainConfig}
use Rattle.due.specs.declared.due.Due.TheVariants as dues
use Rattle.due.specs.declared.frame_due.FrameDue.{FrameDue}
use Rattle.due.specs.declared.frame_due.FrameDue.TheVariants as frame_dues
use Rattle.due.specs.Banks.{Bank, IsBankAnswer, bank_of, duts_of, window_of}
use Rattle.due.specs.FrameOrders.{AsksFrames, AsksReading, frame_order_in}
use Rattle.due.specs.Inputs.{Contents, FramesText, Input}
use Rattle.due.specs.Loads.{IsBankLoaded, IsBankRead, IsBankRefused}
use Rattle.due.specs.Orders.{word_refusal}

-- how an answer is told: by its frames where it is decided, else by its report
abbrev pub framed : Window → Bank → Answer → FrameDue
framed window bank (answers.Decided cost q next) = frame_dues.Frames window q
framed window bank answer = frame_dues.Told (dues.Report window answer (duts_of window bank answer))

-- this is told of the answer for a bank
abbrev pub IsFramed : Asked → Bank → FrameDue → Type 0
IsFramed asked bank due =
    let window = window_of asked bank.receivers in (answer : Answer) × IsBankAnswer window bank answer × (due ≡ framed window bank answer)

-- This is told of a text of frames: that it is too large, or its first bad line, or the frames that it tells.
pub data IsToldOf (text : List ℕ) (due : FrameDue) : Type 0 where
  Too_large : FRAMES_LIMIT < length text → due ≡ frame_dues.TooLarge → IsToldOf text due
  Bad_line : length text ≤ FRAMES_LIMIT → (line : ℕ) → (fault : FrameLineFault) → IsRefused text line fault
      → due ≡ frame_dues.BadLine line fault → IsToldOf text due
  Good : length text ≤ FRAMES_LIMIT → (frames : List Frame) → IsTextOf frames text → due ≡ frame_dues.Read frames → IsToldOf text due

-- This is due, by the first rule that fits: refused words; of a bank the refusal of its configuration or of the first bad log, and
-- what is told of the answer; or what is told of a text of frames.
pub data IsFrameDue (words : List (List ℕ)) (contents : Contents) (due : FrameDue) : Type 0 where
  Bad_words : (fault : WordFault) → frame_order_in words ≡ Err fault → due ≡ frame_dues.Told (dues.Refused (word_refusal fault))
      → IsFrameDue words contents due
  Bad_bank : (config : List ℕ) → (asked : Asked) → AsksFrames words config asked
      → (refusal : Refusal) → IsBankRefused contents refusal → due ≡ frame_dues.Told (dues.Refused refusal) → IsFrameDue words contents due
  Answered : (config : List ℕ) → (asked : Asked) → AsksFrames words config asked
      → (plain : PlainConfig) → (records : List Records) → IsBankLoaded contents plain records
      → IsFramed asked (bank_of plain records) due → IsFrameDue words contents due
  Of_text : (file : List ℕ) → AsksReading words file → IsToldOf (contents FramesText) due → IsFrameDue words contents due

-- this file is read as this input: one of a bank's, or the text of frames
pub data IsFrameRead (words : List (List ℕ)) (contents : Contents) (input : Input) (file : List ℕ) : Type 0 where
  Reads_bank : (config : List ℕ) → (asked : Asked) → AsksFrames words config asked → IsBankRead config contents input file
      → IsFrameRead words contents input file
  Reads_frames : AsksReading words file → input ≡ FramesText → IsFrameRead words contents input file
