-- What has been read of a text of frames so far, and which line a fault names.
use Rattle.std.proofs.Common.{◌≡◌, ℕ, ◌+◌, ◌<◌, ◌≤◌, List, [], ◌∷◌, ◌++◌, length, refl, sym, ap, ◌∙◌, subst, arith, append-nil, length-append}
use Rattle.std.specs.Prelude.{Err, IfErr, IfOk, MatchResult, Ok, Result, Vec}
use Rattle.formats.specs.declared.frame.Frame.{Frame}
use Rattle.formats.specs.declared.frame.FrameLineFault.{FrameLineFault}
use Rattle.formats.specs.declared.frame.FrameLineFault.TheVariants as lines
use Rattle.formats.specs.declared.frame.TheConstants.{ELEMENTS, FRAME_LIMIT, FRAME_TIME}
use Rattle.formats.specs.Bytes.{letter_h, letter_l}
use Rattle.formats.specs.Frames.{edge, elements, frames_text, width}
use Rattle.formats.specs.FrameTexts.{IsAfter, IsElement, IsReadTo, IsRefused, IsSecond, IsTextOf, MayBegin, Next, TellASecond, line_due, next_start}
use Rattle.formats.specs.FrameTexts.Next.{NextFrame, Rise, Fall}
use Rattle.std.proofs.lemmas.List.{length_push}
use Rattle.formats.proofs.FrameEdgeLaws.{edge_some}
use Rattle.formats.proofs.FrameExampleLaws.{order-nil}
use Rattle.formats.proofs.FrameOutcomeLaws.{one_list, one_refusal, text_not_refused}
use Rattle.formats.proofs.FrameRunLaws.{width_is}
use Rattle.formats.proofs.FrameStepLaws.{read_begin, read_fall, read_frame, read_rise}
use Rattle.irig_frames.specs.Reading.{GoesOn, HasRefusedLine, IsFaultAt, IsFaultFrom, IsFaultOf}
use Rattle.irig_frames.specs.declared.fault.FrameFault.{FrameFault}
use Rattle.irig_frames.specs.declared.fault.FrameFault.TheVariants.{Meaning, NoMemory, Shape, Timing, TooManyFrames}

-- at the start, and at the end
pub read_start : (text : List ℕ) → IsReadTo text [] NextFrame text
read_start text = record { order = order-nil; begins = tt; parts = refl }

pub read_end : (text : List ℕ) (frames : List Frame) (rest : List ℕ) → IsReadTo text frames NextFrame rest → rest ≡ [] → IsTextOf frames text
read_end text frames rest read over =
    (read.order, read.parts ∙ (ap (λ l. frames_text frames ++ l) over ∙ append-nil (frames_text frames)))

-- the bad line that comes next is the first one of the text
pub fault_from : (frames : List Frame) (next : Next) (rest : List ℕ) (fault : FrameFault) → IsFaultAt frames next rest fault → IsFaultFrom frames next rest fault
fault_from frames next rest (Shape line) h = λ text read. record { frames = frames; next = next; rest = rest; read = read; is_due = h.0; bad = h.1 }
fault_from frames next rest (Timing line) h = λ text read. record { frames = frames; next = next; rest = rest; read = read; is_due = h.0; bad = h.1 }
fault_from frames next rest (Meaning line) h = λ text read. record { frames = frames; next = next; rest = rest; read = read; is_due = h.0; bad = h.1 }
fault_from frames next rest (TooManyFrames line) h = λ text read. record { frames = frames; next = next; rest = rest; read = read; is_due = h.0; bad = h.1 }
fault_from frames next rest NoMemory h = λ text read. tt

-- a fault further on is one from here on
pub fault_later : (frames : List Frame) (next : Next) (rest : List ℕ) (after : Next) (more : List ℕ) (fault : FrameFault)
    → GoesOn frames next rest frames after more → IsFaultAt frames after more fault → IsFaultFrom frames next rest fault
fault_later frames next rest after more fault goes h = λ text read. fault_from frames after more fault h text (goes text read)

-- a fault names the line that is refused, since one line is
fault_names : (text : List ℕ) (found : FrameFault) (line : ℕ) (fault : FrameLineFault) → IsFaultOf text found → IsRefused text line fault → HasRefusedLine line fault found
fault_names text (Shape at) line fault h owed = one_refusal text at line lines.Shape fault h owed
fault_names text (Timing at) line fault h owed = one_refusal text at line lines.Timing fault h owed
fault_names text (Meaning at) line fault h owed = one_refusal text at line lines.Meaning fault h owed
fault_names text (TooManyFrames at) line fault h owed = one_refusal text at line lines.TooManyFrames fault h owed
fault_names text NoMemory line fault h owed = tt

-- and a text of frames has none
no_fault : (text : List ℕ) (frames : List Frame) → IsTextOf frames text → (found : FrameFault) → IsFaultOf text found → found ≡ NoMemory
no_fault text frames owed (Shape at) h = absurd (text_not_refused text frames at lines.Shape owed h)
no_fault text frames owed (Timing at) h = absurd (text_not_refused text frames at lines.Timing owed h)
no_fault text frames owed (Meaning at) h = absurd (text_not_refused text frames at lines.Meaning owed h)
no_fault text frames owed (TooManyFrames at) h = absurd (text_not_refused text frames at lines.TooManyFrames owed h)
no_fault text frames owed NoMemory h = refl

-- so each text of frames is read, and each other text is refused
module _ {Z : Type 0} (text : List ℕ) where
  pub text_is_read : (result : Result (Vec Frame Z) FrameFault) → IfOk result (λ read. IsTextOf read.items text) → IfErr result (IsFaultOf text)
      → (frames : List Frame) → IsTextOf frames text → MatchResult result (λ read. read.items ≡ frames) (λ fault. fault ≡ NoMemory)
  text_is_read (Ok read) good bad frames owed = one_list text read.items frames good owed
  text_is_read (Err fault) good bad frames owed = no_fault text frames owed fault bad

  pub fault_is_read : (result : Result (Vec Frame Z) FrameFault) → IfOk result (λ read. IsTextOf read.items text) → IfErr result (IsFaultOf text)
      → (line : ℕ) (fault : FrameLineFault) → IsRefused text line fault → MatchResult result (λ read. ⊥) (HasRefusedLine line fault)
  fault_is_read (Ok read) good bad line fault owed = text_not_refused text read.items line fault good owed
  fault_is_read (Err found) good bad line fault owed = fault_names text found line fault bad owed

-- less is left after an edge
pub edge_shorter : (letter ms : ℕ) (text rest : List ℕ) → text ≡ edge letter ms ++ rest → length rest < length text
edge_shorter letter ms text rest e =
    omega (arith, ap (λ (l : List ℕ). length l) e, length-append (edge letter ms) rest, edge_some letter ms [], ap (λ (l : List ℕ). length l) (append-nil (edge letter ms)))

-- after the last of the frames
pub after_last : (front : List Frame) (last : Frame) (ms : ℕ) → last.at + FRAME_TIME ≤ ms → IsAfter (front ++ last ∷ []) ms
after_last [] last ms h = h
after_last (f ∷ []) last ms h = h
after_last (f ∷ g ∷ fs) last ms h = after_last (g ∷ fs) last ms h

pub last_before : (front : List Frame) (last : Frame) (ms : ℕ) → IsAfter (front ++ last ∷ []) ms → last.at + FRAME_TIME ≤ ms
last_before [] last ms h = h
last_before (f ∷ []) last ms h = h
last_before (f ∷ g ∷ fs) last ms h = last_before (g ∷ fs) last ms h

module _ (frames : List Frame) (text : List ℕ) where
  -- while a frame is read: it began, and less of the text is left
  pub record IsWithin (start : ℕ) (over rest : List ℕ) : Type 0 where
    pub goes : GoesOn frames NextFrame text frames (Fall start over) rest
    pub early : start < FRAME_LIMIT
    pub short : length over < ELEMENTS
    pub less : length rest < length text

  pub within_first : (start : ℕ) (rest : List ℕ) → MayBegin frames start → text ≡ edge letter_h start ++ rest → IsWithin start [] rest
  within_first start rest may is = record {
    goes = λ whole read. read_begin whole frames rest start text read is may;
    early = may.early;
    short = omega arith;
    less = edge_shorter letter_h start text rest is;
  }

  -- what is asked of the elements so far is asked of a slice of them
  module _ (start : ℕ) (over rest : List ℕ) (at : IsWithin start over rest) (seen : List ℕ) (same : seen ≡ over) where
    pub fall_refused : (fault : FrameFault) → IsFaultAt frames (Fall start seen) rest fault → IsFaultFrom frames NextFrame text fault
    fall_refused fault h =
        fault_later frames NextFrame text (Fall start over) rest fault at.goes (subst (λ es. IsFaultAt frames (Fall start es) rest fault) same h)

    module _ (e : ℕ) (low : List ℕ) (is_element : IsElement e) (falls : rest ≡ edge letter_l (next_start start seen + width e) ++ low) where
      fallen : rest ≡ edge letter_l (next_start start over + width e) ++ low
      fallen = subst (λ es. rest ≡ edge letter_l (next_start start es + width e) ++ low) same falls

      pub low_less : length low < length text
      low_less = omega (arith, at.less, edge_shorter letter_l (next_start start over + width e) rest low fallen)

      module _ (now : List ℕ) (pushed : now ≡ over ++ e ∷ []) where
        -- after an element that isn't the last
        rises : length over + 1 < ELEMENTS → GoesOn frames NextFrame text frames (Rise start now) low
        rises short = subst (λ es. GoesOn frames NextFrame text frames (Rise start es) low) (sym pushed)
            (λ whole read. read_fall whole frames low start over e rest (at.goes whole read) is_element fallen short)

        pub rise_refused : length over + 1 < ELEMENTS → (fault : FrameFault) → IsFaultAt frames (Rise start now) low fault → IsFaultFrom frames NextFrame text fault
        rise_refused short fault h = fault_later frames NextFrame text (Rise start now) low fault (rises short) h

        pub within_more : length over + 1 < ELEMENTS → (more : List ℕ) → low ≡ edge letter_h (next_start start now) ++ more → IsWithin start now more
        within_more short more up = record {
          goes = λ whole read. read_rise whole frames more start now low (rises short whole read) up;
          early = at.early;
          short = omega (arith, short, length_push over e, ap (λ (l : List ℕ). length l) pushed);
          less = omega (arith, low_less, edge_shorter letter_h (next_start start now) low more up);
        }

        -- after the last
        pub whole_frame : (t s : ℕ) → IsSecond t s → elements t s ≡ now
            → GoesOn frames NextFrame text (frames ++ record { at = start; minute = t; second = s } ∷ []) NextFrame low
        whole_frame t s is told = λ whole read.
            read_frame whole frames low (record { at = start; minute = t; second = s }) over e rest (at.goes whole read) fallen is (told ∙ pushed)

        pub without_meaning : (number : ℕ) → length over + 1 ≡ ELEMENTS → number ≡ line_due frames (Fall start over) → (TellASecond now → ⊥)
            → IsFaultFrom frames NextFrame text (Meaning number)
        without_meaning number last is none =
            fault_later frames NextFrame text (Fall start over) rest (Meaning number) at.goes (
              is,
              (
                next_start start over + width e,
                (omega (arith, at.early, last, is_element, width_is e is_element), (low, fallen)),
                tt,
                (e, is_element, refl),
                λ means. none (subst TellASecond (sym pushed) (means e is_element refl last)),
              ),
            )
