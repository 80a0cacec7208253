-- Contents that agree on what the commands of frames read owe the same, and lead to the same files.
use Rattle.std.proofs.Common.{◌≡◌, ◌↔◌, ℕ, List, refl, sym, subst}
use Rattle.formats.specs.declared.words.Asked.{Asked}
use Rattle.due.specs.declared.frame_due.FrameDue.{FrameDue}
use Rattle.due.specs.FrameOrders.{AsksFrames, AsksReading}
use Rattle.due.specs.FrameRules.{Answered, Bad_bank, Bad_words, IsFrameDue, IsFrameRead, IsToldOf, Of_text, Reads_bank, Reads_frames}
use Rattle.due.specs.Inputs.{Contents, FramesText, Input}
use Rattle.due.specs.Loads.{IsBankRead}
use Rattle.due.proofs.ReadLaws.{bank_read_back, bank_read_too, loaded_too, refused_too}

-- the contents agree on all that is read for the one
abbrev pub Agree : List (List ℕ) → Contents → Contents → Type 0
Agree words some other = (input : Input) (file : List ℕ) → IsFrameRead words some input file → some input ≡ other input

module _ (words : List (List ℕ)) (some other : Contents) (agree : Agree words some other) where
  on_bank : (config : List ℕ) (asked : Asked) → AsksFrames words config asked → (input : Input) (file : List ℕ) → IsBankRead config some input file → some input ≡ other input
  on_bank config asked asks input file read = agree input file (Reads_bank config asked asks read)

  on_text : (file : List ℕ) → AsksReading words file → some FramesText ≡ other FramesText
  on_text file asks = agree FramesText file (Reads_frames asks refl)

  due_too : (due : FrameDue) → IsFrameDue words some due → IsFrameDue words other due
  due_too due (Bad_words fault is e) = Bad_words fault is e
  due_too due (Bad_bank config asked asks refusal bad e) = Bad_bank config asked asks refusal (refused_too config some other (on_bank config asked asks) refusal bad) e
  due_too due (Answered config asked asks plain records loaded told) =
      Answered config asked asks plain records (loaded_too config some other (on_bank config asked asks) plain records loaded) told
  due_too due (Of_text file asks told) = Of_text file asks (subst (λ bytes. IsToldOf bytes due) (on_text file asks) told)

  reads_too : (input : Input) (file : List ℕ) → IsFrameRead words some input file → IsFrameRead words other input file
  reads_too input file (Reads_bank config asked asks read) = Reads_bank config asked asks (bank_read_too config some other (on_bank config asked asks) input file read)
  reads_too input file (Reads_frames asks is) = Reads_frames asks is

  reads_back : (input : Input) (file : List ℕ) → IsFrameRead words other input file → IsFrameRead words some input file
  reads_back input file (Reads_bank config asked asks read) = Reads_bank config asked asks (bank_read_back config some other (on_bank config asked asks) input file read)
  reads_back input file (Reads_frames asks is) = Reads_frames asks is

-- it is the same the other way round
turned : (words : List (List ℕ)) (some other : Contents) → Agree words some other → Agree words other some
turned words some other agree input file is = sym (agree input file (reads_back words some other agree input file is))

pub same_frame_due : (words : List (List ℕ)) (some other : Contents) → Agree words some other → (due : FrameDue) → IsFrameDue words some due ↔ IsFrameDue words other due
same_frame_due words some other agree due = (due_too words some other agree due, due_too words other some (turned words some other agree) due)

pub same_frame_reads : (words : List (List ℕ)) (some other : Contents) → Agree words some other → (input : Input) (file : List ℕ)
    → IsFrameRead words some input file ↔ IsFrameRead words other input file
same_frame_reads words some other agree input file =
    (reads_too words some other agree input file, reads_back words some other agree input file)
