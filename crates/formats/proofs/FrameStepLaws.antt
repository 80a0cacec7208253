-- From one line of a text of frames to the next: what was read of them, with one edge more.
use Rattle.std.proofs.Common.{◌≡◌, ℕ, ◌+◌, ◌<◌, List, [], ◌∷◌, ◌++◌, length, sym, ap, ◌∙◌, arith, append_assoc}
use Rattle.std.proofs.lemmas.Grind.{flat_map-append}
use Rattle.std.proofs.lemmas.List.{append-nil, length_push}
use Rattle.std.proofs.lemmas.List.Elements.{All-push}
use Rattle.formats.specs.declared.frame.Frame.{Frame}
use Rattle.formats.specs.declared.frame.TheConstants.{ELEMENTS, ELEMENT_TIME, FRAME_LIMIT}
use Rattle.formats.specs.Bytes.{letter_h, letter_l}
use Rattle.formats.specs.Frames.{edge, elements, frame_text, frames_text, pulses, width}
use Rattle.formats.specs.FrameTexts.{AreApart, AreInOrder, IsAfter, IsElement, IsReadTo, IsSecond, MayBegin, next_start}
use Rattle.formats.specs.FrameTexts.Next.{NextFrame, Rise, Fall}

-- one frame more
apart-push : (frames : List Frame) (f : Frame) → AreApart frames → IsAfter frames f.at → AreApart (frames ++ f ∷ [])
apart-push [] f apart after = tt
apart-push (g ∷ []) f apart after = (after, tt)
apart-push (g ∷ h ∷ frames) f apart after = (apart.0, apart-push (h ∷ frames) f apart.1 after)

pub order-push : (frames : List Frame) (f : Frame) → AreInOrder frames → MayBegin frames f.at → IsSecond f.minute f.second → AreInOrder (frames ++ f ∷ [])
order-push frames f order may second = record {
  most = omega (arith, length_push frames f, may.room);
  seconds = All-push (λ g. IsSecond g.minute g.second) frames f order.seconds second;
  starts = All-push (λ g. g.at < FRAME_LIMIT) frames f order.starts may.early;
  apart = apart-push frames f order.apart may.after;
}

-- the text of elements, with more behind them
pub pulses-append : (ms : ℕ) (es fs : List ℕ) → pulses ms (es ++ fs) ≡ pulses ms es ++ pulses (next_start ms es) fs
pulses-append ms [] fs = ap (λ n. pulses n fs) (omega arith)
pulses-append ms (e ∷ es) fs =
    let more : pulses (ms + ELEMENT_TIME) (es ++ fs) ≡ pulses (ms + ELEMENT_TIME) es ++ pulses (next_start ms (e ∷ es)) fs =
    pulses-append (ms + ELEMENT_TIME) es fs ∙ ap (λ n. pulses (ms + ELEMENT_TIME) es ++ pulses n fs) (omega arith) in
    ap (λ l. edge letter_h ms ++ (edge letter_l (ms + width e) ++ l)) more
    ∙ (ap (λ l. edge letter_h ms ++ l) (sym (append_assoc (edge letter_l (ms + width e)) (pulses (ms + ELEMENT_TIME) es) (pulses (next_start ms (e ∷ es)) fs)))
    ∙ sym (append_assoc (edge letter_h ms) (edge letter_l (ms + width e) ++ pulses (ms + ELEMENT_TIME) es) (pulses (next_start ms (e ∷ es)) fs)))

-- with one more, up to its end
pub pulses-push : (ms : ℕ) (es : List ℕ) (e : ℕ)
    → pulses ms (es ++ e ∷ []) ≡ (pulses ms es ++ edge letter_h (next_start ms es)) ++ edge letter_l (next_start ms es + width e)
pulses-push ms es e =
    pulses-append ms es (e ∷ [])
    ∙ (ap (λ l. pulses ms es ++ (edge letter_h (next_start ms es) ++ l)) (append-nil (edge letter_l (next_start ms es + width e)))
    ∙ sym (append_assoc (pulses ms es) (edge letter_h (next_start ms es)) (edge letter_l (next_start ms es + width e))))

frames_text-push : (frames : List Frame) (f : Frame) → frames_text (frames ++ f ∷ []) ≡ frames_text frames ++ frame_text f
frames_text-push frames f = flat_map-append frame_text frames (f ∷ []) ∙ ap (λ l. frames_text frames ++ l) (append-nil (frame_text f))

module _ (text : List ℕ) (frames : List Frame) (tail : List ℕ) where
  -- a frame begins
  pub read_begin : (ms : ℕ) (rest : List ℕ) → IsReadTo text frames NextFrame rest → rest ≡ edge letter_h ms ++ tail → MayBegin frames ms
      → IsReadTo text frames (Fall ms []) tail
  read_begin ms rest read is may =
      let start : ms ≡ next_start ms [] = omega arith in
      record {
        order = read.order;
        begins = (may, omega arith, λ k d h. absurd (omega (arith, h)));
        parts = read.parts ∙ (ap (λ l. frames_text frames ++ l) is ∙ ap (λ n. frames_text frames ++ (edge letter_h n ++ tail)) start);
      }

  -- an element becomes high
  pub read_rise : (start : ℕ) (over rest : List ℕ) → IsReadTo text frames (Rise start over) rest → rest ≡ edge letter_h (next_start start over) ++ tail
      → IsReadTo text frames (Fall start over) tail
  read_rise start over rest read is = record {
    order = read.order;
    begins = (read.begins.0, read.begins.2, read.begins.3);
    parts =
        read.parts
        ∙ (ap (λ l. frames_text frames ++ (pulses start over ++ l)) is
        ∙ ap (λ l. frames_text frames ++ l) (sym (append_assoc (pulses start over) (edge letter_h (next_start start over)) tail)));
  }

  -- it becomes low, and is over
  fallen : (start : ℕ) (over : List ℕ) (e : ℕ) (rest : List ℕ) → IsReadTo text frames (Fall start over) rest → rest ≡ edge letter_l (next_start start over + width e) ++ tail
      → text ≡ frames_text frames ++ (pulses start (over ++ e ∷ []) ++ tail)
  fallen start over e rest read is =
      let high = pulses start over ++ edge letter_h (next_start start over) in
      let low = edge letter_l (next_start start over + width e) in
      read.parts
      ∙ (ap (λ l. frames_text frames ++ (high ++ l)) is
      ∙ (ap (λ l. frames_text frames ++ l) (sym (append_assoc high low tail))
      ∙ ap (λ l. frames_text frames ++ (l ++ tail)) (sym (pulses-push start over e))))

  pub read_fall : (start : ℕ) (over : List ℕ) (e : ℕ) (rest : List ℕ) → IsReadTo text frames (Fall start over) rest → IsElement e
      → rest ≡ edge letter_l (next_start start over + width e) ++ tail → length over + 1 < ELEMENTS → IsReadTo text frames (Rise start (over ++ e ∷ [])) tail
  read_fall start over e rest read is_element is short = record {
    order = read.order;
    begins = (
      read.begins.0,
      omega (arith, length_push over e),
      omega (arith, length_push over e, short),
      All-push IsElement over e read.begins.2 is_element,
    );
    parts = fallen start over e rest read is;
  }

  -- and so is the frame
  pub read_frame : (f : Frame) (over : List ℕ) (e : ℕ) (rest : List ℕ) → IsReadTo text frames (Fall f.at over) rest
      → rest ≡ edge letter_l (next_start f.at over + width e) ++ tail → IsSecond f.minute f.second → elements f.minute f.second ≡ over ++ e ∷ []
      → IsReadTo text (frames ++ f ∷ []) NextFrame tail
  read_frame f over e rest read is second told = record {
    order = order-push frames f read.order read.begins.0 second;
    begins = tt;
    parts =
        fallen f.at over e rest read is
        ∙ (ap (λ es. frames_text frames ++ (pulses f.at es ++ tail)) (sym told)
        ∙ (sym (append_assoc (frames_text frames) (frame_text f) tail) ∙ ap (λ l. l ++ tail) (sym (frames_text-push frames f))));
  }
