-- The line of each refusal.
use Rattle.std.specs.Prelude.{ℕ, List, [], ◌∷◌, ◌++◌, Option, Some, None, codes}
use Rattle.std.specs.Fmt.{decimal}
use Rattle.formats.specs.declared.fault.LineFault.{LineFault}
use Rattle.formats.specs.declared.fault.LineFault.TheVariants.{Shape, NotRising, TooManyRecords}
use Rattle.formats.specs.declared.frame.FrameLineFault.{FrameLineFault}
use Rattle.formats.specs.declared.frame.FrameLineFault.TheVariants as frame_line
use Rattle.formats.specs.declared.refusal.Refusal.{Refusal}
use Rattle.formats.specs.declared.refusal.Refusal.TheVariants.{WordsUsage, WordsBad, WordsEmptyRange, ConfigTooLarge, ConfigNotToml, ConfigMissing, ConfigWrongKind, ConfigOutOfRange, ConfigUnknownKey, LogTooLarge, LogLine}
use Rattle.definitions.specs.time.Spelling.{dash}
use Rattle.formats.specs.Bytes.{space, line}
use Rattle.formats.specs.Options.{option_text}
use Rattle.formats.specs.Keys.{key_word}

-- a text that is larger than it may be
abbrev pub too_large : List ℕ
too_large = codes "too large"

-- what is said of a line of a text, by its number from 1
abbrev pub at_line : ℕ → List ℕ → List ℕ
at_line number what = codes "line " ++ decimal number ++ codes ": " ++ what

-- words that aren't of the grammar, a bad value, named by its option or its place, and a range that is empty
abbrev pub usage_line : List ℕ
usage_line = line (codes "words: usage")

abbrev pub bad_word_line : List ℕ → List ℕ
bad_word_line word = line (codes "words: bad " ++ word)

abbrev pub empty_range_line : List ℕ
empty_range_line = line (codes "words: --to is before --from")

-- a key of a configuration, of a receiver by its number from 1 or of none
abbrev pub key_text : Option ℕ → List ℕ → List ℕ
key_text None key = key
key_text (Some receiver) key = codes "receiver " ++ decimal receiver ++ space ∷ key

-- the refusals of a configuration: the whole of it, or a key
pub data ConfigurationFault : Type 0 where
  TooLarge : ConfigurationFault
  NotToml : ConfigurationFault
  MissingKey : Option ℕ → List ℕ → ConfigurationFault
  WrongKind : Option ℕ → List ℕ → ConfigurationFault
  OutOfRange : Option ℕ → List ℕ → ConfigurationFault
  UnknownKey : ConfigurationFault

abbrev pub configuration_fault_text : ConfigurationFault → List ℕ
configuration_fault_text TooLarge = too_large
configuration_fault_text NotToml = codes "not toml"
configuration_fault_text (MissingKey receiver key) = codes "missing " ++ key_text receiver key
configuration_fault_text (WrongKind receiver key) = codes "wrong kind " ++ key_text receiver key
configuration_fault_text (OutOfRange receiver key) = codes "out of range " ++ key_text receiver key
configuration_fault_text UnknownKey = codes "unknown key"

abbrev pub configuration_fault_line : ConfigurationFault → List ℕ
configuration_fault_line fault = line (codes "configuration: " ++ configuration_fault_text fault)

-- the words for a bad line of a log
abbrev pub fault_text : LineFault → List ℕ
fault_text Shape = codes "shape"
fault_text NotRising = codes "not rising"
fault_text TooManyRecords = codes "too many records"

-- the beginning of a refusal of the log of a receiver, by its number from 1 and its name
abbrev pub log_text : ℕ → List ℕ → List ℕ
log_text number name = codes "log " ++ decimal number ++ space ∷ name ++ codes ": "

-- what is said of the log
abbrev pub log_line : ℕ → List ℕ → List ℕ → List ℕ
log_line number name what = line (log_text number name ++ what)

-- the words for a bad line of frames
abbrev pub frame_fault_text : FrameLineFault → List ℕ
frame_fault_text frame_line.Shape = codes "shape"
frame_fault_text frame_line.TooManyFrames = codes "too many frames"
frame_fault_text frame_line.Timing = codes "timing"
frame_fault_text frame_line.Meaning = codes "meaning"

-- what is said of a text of frames: that it is too large, or how a line of it is bad
abbrev pub frames_line : List ℕ → List ℕ
frames_line what = line (codes "frames: " ++ what)

abbrev pub frames_too_large : List ℕ
frames_too_large = frames_line too_large

abbrev pub frame_fault_line : ℕ → FrameLineFault → List ℕ
frame_fault_line at fault = frames_line (at_line at (frame_fault_text fault))

-- the refusals of a certificate: its text, by size or line, or what it says, by step or named keys
pub data CertificateFault : Type 0 where
  TooLarge : CertificateFault
  BadLine : ℕ → CertificateFault
  TooManySteps : ℕ → CertificateFault
  OtherWindow : CertificateFault
  Uncovered : ℕ → CertificateFault
  WrongBound : ℕ → CertificateFault
  NotAbove : ℕ → CertificateFault
  WrongEnds : Option ℕ → CertificateFault

-- a key, or - where there is none
abbrev pub named_key : Option ℕ → List ℕ
named_key None = dash ∷ []
named_key (Some key) = decimal key

abbrev pub certificate_fault_text : CertificateFault → List ℕ
certificate_fault_text TooLarge = too_large
certificate_fault_text (BadLine at) = at_line at (codes "shape")
certificate_fault_text (TooManySteps at) = at_line at (codes "too many steps")
certificate_fault_text OtherWindow = codes "other window"
certificate_fault_text (Uncovered step) = codes "uncovered at step " ++ decimal step
certificate_fault_text (WrongBound step) = codes "wrong bound at step " ++ decimal step
certificate_fault_text (NotAbove step) = codes "not above at step " ++ decimal step
certificate_fault_text (WrongEnds key) = codes "wrong ends " ++ named_key key

abbrev pub certificate_fault_line : CertificateFault → List ℕ
certificate_fault_line fault = line (codes "certificate: " ++ certificate_fault_text fault)

-- the line of a refusal
abbrev pub refusal_text : Refusal → List ℕ
refusal_text WordsUsage = usage_line
refusal_text (WordsBad option) = bad_word_line (option_text option)
refusal_text WordsEmptyRange = empty_range_line
refusal_text ConfigTooLarge = configuration_fault_line TooLarge
refusal_text ConfigNotToml = configuration_fault_line NotToml
refusal_text (ConfigMissing key receiver) = configuration_fault_line (MissingKey receiver (key_word key))
refusal_text (ConfigWrongKind key receiver) = configuration_fault_line (WrongKind receiver (key_word key))
refusal_text (ConfigOutOfRange key receiver) = configuration_fault_line (OutOfRange receiver (key_word key))
refusal_text ConfigUnknownKey = configuration_fault_line UnknownKey
refusal_text (LogTooLarge receiver name) = log_line receiver name too_large
refusal_text (LogLine receiver name at fault) = log_line receiver name (at_line at (fault_text fault))
