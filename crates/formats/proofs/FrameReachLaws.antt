-- What is written of frames leads, line by line, to where it ends.
use Rattle.std.proofs.Common.{◌≡◌, ℕ, suc, ◌+◌, ◌<◌, ◌⊎◌, inl, inr, List, [], ◌∷◌, ◌++◌, length, refl, sym, ap, ◌∙◌, subst, arith, append_assoc, length-append}
use Rattle.std.specs.List.{All}
use Rattle.std.proofs.lemmas.List.{append-nil, get_or_append_left, length_push}
use Rattle.std.proofs.Math.Seq.{get_or-append_seam}
use Rattle.formats.specs.declared.frame.Frame.{Frame}
use Rattle.formats.specs.declared.frame.TheConstants.{ELEMENTS, ELEMENT_TIME, FRAME_LIMIT}
use Rattle.formats.specs.Bytes.{letter_h, letter_l}
use Rattle.formats.specs.Frames.{edge, elements, frame_text, frames_text, pulses, width}
use Rattle.formats.specs.FrameTexts.{AreApart, AreInOrder, IsAfter, IsElement, IsNext, IsReadTo, IsSecond, MayBegin, Next, begun, next_start}
use Rattle.formats.specs.FrameTexts.Next.{NextFrame, Rise, Fall}
use Rattle.formats.proofs.LineLaws.{by_end}
use Rattle.formats.proofs.FrameTellLaws.{are_elements, elements_long}
use Rattle.formats.proofs.FrameStepLaws.{pulses-push}
use Rattle.formats.proofs.FrameRunLaws.{Reaches, State, frame_of, reaches-nil, reaches-one, reaches-then, width_is}

-- what comes next after some elements of a frame
abbrev next_after : ℕ → List ℕ → Next
next_after start [] = NextFrame
next_after start (e ∷ es) = Rise start (e ∷ es)

after_push : (start : ℕ) (es : List ℕ) (e : ℕ) → next_after start (es ++ e ∷ []) ≡ Rise start (es ++ e ∷ [])
after_push start [] e = refl
after_push start (d ∷ es) e = refl

after_some : (start : ℕ) (es : List ℕ) → 0 < length es → next_after start es ≡ Rise start es
after_some start [] some = absurd (omega (arith, some))
after_some start (e ∷ es) some = refl

module _ (frames : List Frame) (start : ℕ) (may : MayBegin frames start) where
  -- an element becomes high
  rise : (es : List ℕ) (ms : ℕ) (tail : List ℕ) → ms ≡ next_start start es → length es < ELEMENTS
      → Reaches (frames, next_after start es) (edge letter_h ms ++ tail) (frames, Fall start es) tail
  rise [] ms tail is short =
      let same : ms ≡ start = omega (arith, is) in
      reaches-one (frames, NextFrame) (frames, Fall start []) (edge letter_h ms ++ tail) tail ms (omega (arith, same, may.early)) refl
      (subst (MayBegin frames) (sym same) may, ap (λ n. (frames, Fall n [])) (sym same))
  rise (e ∷ es) ms tail is short =
      reaches-one (frames, Rise start (e ∷ es)) (frames, Fall start (e ∷ es)) (edge letter_h ms ++ tail) tail ms (omega (arith, is, short, may.early)) refl
      (is, refl)

  -- it becomes low, and is over
  fall : (es : List ℕ) (e ms : ℕ) (tail : List ℕ) → ms ≡ next_start start es → IsElement e → length es + 1 < ELEMENTS
      → Reaches (frames, Fall start es) (edge letter_l (ms + width e) ++ tail) (frames, next_after start (es ++ e ∷ [])) tail
  fall es e ms tail is is_element short =
      reaches-one (frames, Fall start es) (frames, next_after start (es ++ e ∷ [])) (edge letter_l (ms + width e) ++ tail) tail (ms + width e)
      (omega (arith, is, short, is_element, width_is e is_element, may.early)) refl
      (e, is_element, omega (arith, is), inl (omega (arith, short, length_push es e), ap (λ n. (frames, n)) (after_push start es e)))

  -- some elements more, which don't end the frame
  more : (fs es : List ℕ) (ms : ℕ) (tail : List ℕ) → ms ≡ next_start start es → All IsElement fs → length es + length fs < ELEMENTS
      → Reaches (frames, next_after start es) (pulses ms fs ++ tail) (frames, next_after start (es ++ fs)) tail
  more [] es ms tail is all short =
      subst (λ l. Reaches (frames, next_after start es) tail (frames, next_after start l) tail) (sym (append-nil es))
      (reaches-nil (frames, next_after start es) tail)
  more (f ∷ fs) es ms tail is all short =
      let rest = pulses (ms + ELEMENT_TIME) fs ++ tail in
      let low = edge letter_l (ms + width f) ++ rest in
      let apart : pulses ms (f ∷ fs) ++ tail ≡ edge letter_h ms ++ low =
      append_assoc (edge letter_h ms) (edge letter_l (ms + width f) ++ pulses (ms + ELEMENT_TIME) fs) tail
      ∙ ap (λ l. edge letter_h ms ++ l) (append_assoc (edge letter_l (ms + width f)) (pulses (ms + ELEMENT_TIME) fs) tail) in
      let up = rise es ms low is (omega (arith, short)) in
      let down = fall es f ms rest is (all 0 0 (omega arith)) (omega (arith, short)) in
      let on = more fs (es ++ f ∷ []) (ms + ELEMENT_TIME) tail (omega (arith, is, length_push es f)) (λ k d h. all (suc k) d (omega (arith, h)))
      (omega (arith, short, length_push es f)) in
      let one = reaches-then (frames, next_after start es) (frames, Fall start es) (frames, next_after start (es ++ f ∷ [])) (edge letter_h ms ++ low) low rest up down in
      let whole = reaches-then (frames, next_after start es) (frames, next_after start (es ++ f ∷ [])) (frames, next_after start ((es ++ f ∷ []) ++ fs)) (edge letter_h ms ++ low) rest tail one on in
      subst (λ l. Reaches (frames, next_after start es) l (frames, next_after start (es ++ f ∷ fs)) tail) (sym apart)
      (subst (λ l. Reaches (frames, next_after start es) (edge letter_h ms ++ low) (frames, next_after start l) tail) (append_assoc es (f ∷ []) fs) whole)

  abbrev next_frame : State
  next_frame = (frames, NextFrame)

  start_is : start ≡ next_start start []
  start_is = omega arith

  -- from the begin of a frame to its elements that are over, and to the next one's rise
  pub to_rise : (over tail : List ℕ) → All IsElement over → 0 < length over → length over < ELEMENTS
      → Reaches next_frame (pulses start over ++ tail) (frames, Rise start over) tail
  to_rise over tail all some short =
      subst (λ n. Reaches next_frame (pulses start over ++ tail) (frames, n) tail) (after_some start over some)
      (more over [] start tail start_is all (omega (arith, short)))

  pub to_fall : (over tail : List ℕ) → All IsElement over → length over < ELEMENTS
      → Reaches next_frame ((pulses start over ++ edge letter_h (next_start start over)) ++ tail) (frames, Fall start over) tail
  to_fall over tail all short =
      let high = edge letter_h (next_start start over) ++ tail in
      let on = reaches-then next_frame (frames, next_after start over) (frames, Fall start over) (pulses start over ++ high) high tail
      (more over [] start high start_is all (omega (arith, short))) (rise over (next_start start over) tail refl short) in
      subst (λ l. Reaches next_frame l (frames, Fall start over) tail) (sym (append_assoc (pulses start over) (edge letter_h (next_start start over)) tail)) on

  -- over a whole frame
  of_parts : (t s : ℕ) (over : List ℕ) (e : ℕ) (tail : List ℕ) → IsSecond t s → elements t s ≡ over ++ e ∷ []
      → Reaches next_frame (pulses start (over ++ e ∷ []) ++ tail) (frames ++ frame_of start t s ∷ [], NextFrame) tail
  of_parts t s over e tail is parts =
      let all : All IsElement (over ++ e ∷ []) = subst (All IsElement) parts (are_elements t s) in
      let long : length over + 1 ≡ ELEMENTS = omega (arith, length_push over e, ap (λ (l : List ℕ). length l) parts, elements_long t s) in
      let last : IsElement e = subst IsElement (get_or-append_seam over e [] 0) (all (length over) 0 (omega (arith, length_push over e))) in
      let front : All IsElement over = λ k d h. subst IsElement (get_or_append_left over (e ∷ []) d k h) (all k d (omega (arith, h, length_push over e))) in
      let at = next_start start over in
      let high = edge letter_h at in
      let low = edge letter_l (at + width e) in
      let up = to_fall over (low ++ tail) front (omega (arith, long)) in
      let down = reaches-one (frames, Fall start over) (frames ++ frame_of start t s ∷ [], NextFrame) (low ++ tail) tail (at + width e)
      (omega (arith, long, last, width_is e last, may.early)) refl
      (e, last, refl, inr (omega (arith, long, length_push over e), (t, s, is, parts, refl))) in
      let whole = reaches-then next_frame (frames, Fall start over) (frames ++ frame_of start t s ∷ [], NextFrame) ((pulses start over ++ high) ++ (low ++ tail)) (low ++ tail) tail up down in
      subst (λ l. Reaches next_frame l (frames ++ frame_of start t s ∷ [], NextFrame) tail)
      (sym (append_assoc (pulses start over ++ high) low tail) ∙ ap (λ l. l ++ tail) (sym (pulses-push start over e))) whole

  pub over_frame : (t s : ℕ) (tail : List ℕ) → IsSecond t s
      → Reaches next_frame (pulses start (elements t s) ++ tail) (frames ++ frame_of start t s ∷ [], NextFrame) tail
  over_frame t s tail is = go (by_end (elements t s))
    where
      go : (elements t s ≡ []) ⊎ ((front : List ℕ) × (last : ℕ) × (elements t s ≡ front ++ last ∷ []))
          → Reaches next_frame (pulses start (elements t s) ++ tail) (frames ++ frame_of start t s ∷ [], NextFrame) tail
      go (inl none) = absurd (omega (arith, ap (λ (l : List ℕ). length l) none, elements_long t s))
      go (inr h) =
          subst (λ es. Reaches next_frame (pulses start es ++ tail) (frames ++ frame_of start t s ∷ [], NextFrame) tail) (sym h.2)
          (of_parts t s h.0 h.1 tail is h.2)

-- frames in order may each begin after those before
apart_at : (done : List Frame) (f : Frame) (more : List Frame) → AreApart (done ++ f ∷ more) → IsAfter done f.at
apart_at [] f more h = tt
apart_at (d ∷ []) f more h = h.0
apart_at (d ∷ e ∷ done) f more h = apart_at (e ∷ done) f more h.1

module _ (done : List Frame) (f : Frame) (later : List Frame) (order : AreInOrder (done ++ f ∷ later)) where
  here : length done < length (done ++ f ∷ later)
  here = omega (arith, length-append done (f ∷ later))

  pub second_at : IsSecond f.minute f.second
  second_at = subst (λ g. IsSecond g.minute g.second) (get_or-append_seam done f later f) (order.seconds (length done) f here)

  pub may_at : MayBegin done f.at
  may_at = record {
    room = omega (arith, here, order.most);
    early = subst (λ g. g.at < FRAME_LIMIT) (get_or-append_seam done f later f) (order.starts (length done) f here);
    after = apart_at done f later order.apart;
  }

over_frames : (later done : List Frame) (tail : List ℕ) → AreInOrder (done ++ later)
    → Reaches (done, NextFrame) (frames_text later ++ tail) (done ++ later, NextFrame) tail
over_frames [] done tail order = subst (λ l. Reaches (done, NextFrame) tail (l, NextFrame) tail) (sym (append-nil done)) (reaches-nil (done, NextFrame) tail)
over_frames (f ∷ later) done tail order =
    let more = frames_text later ++ tail in
    let same : (done ++ f ∷ []) ++ later ≡ done ++ f ∷ later = append_assoc done (f ∷ []) later in
    let one = over_frame done f.at (may_at done f later order) f.minute f.second more (second_at done f later order) in
    let rest = over_frames later (done ++ f ∷ []) tail (subst AreInOrder (sym same) order) in
    let whole = reaches-then (done, NextFrame) (done ++ f ∷ [], NextFrame) ((done ++ f ∷ []) ++ later, NextFrame) (frame_text f ++ more) more tail one rest in
    subst (λ l. Reaches (done, NextFrame) l (done ++ f ∷ later, NextFrame) tail) (sym (append_assoc (frame_text f) (frames_text later) tail))
    (subst (λ l. Reaches (done, NextFrame) (frame_text f ++ more) (l, NextFrame) tail) same whole)

-- from the begin of a text to where it was read
pub to_end : (frames : List Frame) (tail : List ℕ) → AreInOrder frames → Reaches ([], NextFrame) (frames_text frames ++ tail) (frames, NextFrame) tail
to_end frames tail order = over_frames frames [] tail order

begun_reaches : (frames : List Frame) (next : Next) (rest : List ℕ) → IsNext frames next → Reaches (frames, NextFrame) (begun next ++ rest) (frames, next) rest
begun_reaches frames NextFrame rest is = reaches-nil (frames, NextFrame) rest
begun_reaches frames (Rise start over) rest is = to_rise frames start is.0 over rest is.3 is.1 is.2
begun_reaches frames (Fall start over) rest is = to_fall frames start is.0 over rest is.2 is.1

pub read_reaches : (text : List ℕ) (frames : List Frame) (next : Next) (rest : List ℕ) → IsReadTo text frames next rest → Reaches ([], NextFrame) text (frames, next) rest
read_reaches text frames next rest read =
    subst (λ t. Reaches ([], NextFrame) t (frames, next) rest) (sym read.parts)
    (reaches-then ([], NextFrame) (frames, NextFrame) (frames, next) (frames_text frames ++ (begun next ++ rest)) (begun next ++ rest) rest
    (to_end frames (begun next ++ rest) read.order) (begun_reaches frames next rest read.begins))
