-- What the examples of frames rest on: single frames in order, lines that are no edges, and elements that tell no second.
use Rattle.std.proofs.Common.{◌≡◌, ℕ, zero, suc, ◌+◌, ◌<◌, ◌==◌, not, true, nat_le, List, [], ◌∷◌, ◌++◌, length, take, get_or, set, refl, sym, ap, ◌∙◌, arith}
use Rattle.std.specs.List.{All, list_all}
use Rattle.std.proofs.lemmas.Bool.{and_parts, false≢true, leb-true}
use Rattle.definitions.specs.time.Calendar.{day_at}
use Rattle.definitions.specs.examples.Dates.{at, on}
use Rattle.std.proofs.lemmas.List.{append-nil}
use Rattle.formats.specs.declared.frame.Frame.{Frame}
use Rattle.formats.specs.Bytes.{line_feed}
use Rattle.formats.specs.Examples.{frame_at}
use Rattle.formats.specs.Frames.{elements, frame_text, marker, told_minute, told_second, width}
use Rattle.formats.specs.FrameTexts.{AreInOrder, IsElement, IsNext, IsReadTo, IsSecond, MayBegin, TellASecond, next_start}
use Rattle.formats.specs.FrameTexts.Next.{Fall, NextFrame}
use Rattle.formats.proofs.FrameEdgeLaws.{Avoids}
use Rattle.formats.proofs.FrameRunLaws.{width_is}
use Rattle.formats.proofs.FrameStepLaws.{order-push}
use Rattle.formats.proofs.FrameTellLaws.{minute_is_told, second_is_told}

-- bytes of which none is an LF
pub avoids_literal : (bs : List ℕ) → list_all (λ b. not (b == line_feed)) bs ≡ true → Avoids line_feed bs
avoids_literal [] all = tt
avoids_literal (b ∷ bs) all =
    let parts = and_parts (not (b == line_feed)) (list_all (λ c. not (c == line_feed)) bs) all in
    (differs b parts.0, avoids_literal bs parts.1)
  where
    differs : (b : ℕ) → not (b == line_feed) ≡ true → b ≡ line_feed → ⊥
    differs b n e = false≢true (sym (ap (λ c. not (c == line_feed)) e) ∙ n)

-- elements by their test
each_element : (es : List ℕ) → list_all (λ e. nat_le e marker) es ≡ true → All IsElement es
each_element es all = λ k d h. leb-true (get_or es k d) marker (every es k d all h)
  where
    every : (es : List ℕ) (k d : ℕ) → list_all (λ e. nat_le e marker) es ≡ true → k < length es → nat_le (get_or es k d) marker ≡ true
    every [] k d all h = absurd (omega (arith, h))
    every (e ∷ es) zero d all h = (and_parts (nat_le e marker) (list_all (λ f. nat_le f marker) es) all).0
    every (e ∷ es) (suc k) d all h = every es k d (and_parts (nat_le e marker) (list_all (λ f. nat_le f marker) es) all).1 (omega (arith, h))

abbrev pub morning : ℕ
morning = at (on 2024 6 10) 6 16

pub order-nil : AreInOrder []
order-nil = record { most = omega arith; seconds = λ k d h. absurd (omega (arith, h)); starts = λ k d h. absurd (omega (arith, h)); apart = tt }

may_at_0 : MayBegin [] 0
may_at_0 = record { room = omega arith; early = omega arith; after = tt }

second_in : (s : ℕ) → s < 60 → IsSecond morning s
unfolding day_at
second_in s lt = (omega arith, lt)

pub one_frame : AreInOrder (frame_at 0 morning 0 ∷ [])
one_frame = order-push [] (frame_at 0 morning 0) order-nil (record { room = omega arith; early = omega arith; after = tt }) (second_in 0 (omega arith))

pub two_frames : AreInOrder (frame_at 0 morning 0 ∷ frame_at 1000 morning 1 ∷ [])
two_frames =
    order-push (frame_at 0 morning 0 ∷ []) (frame_at 1000 morning 1) one_frame
    (record { room = omega arith; early = omega arith; after = omega arith }) (second_in 1 (omega arith))

-- second 1 by its digits, and second 0 by its straight binary seconds
abbrev pub mixed : List ℕ
mixed = set (elements morning 0) 1 1

mixed_minute : told_minute mixed ≡ morning
unfolding day_at
mixed_minute = refl

mixed_second : told_second mixed ≡ 1
unfolding day_at
mixed_second = refl

mixed_differs : elements morning 1 ≡ mixed → ⊥
unfolding day_at
mixed_differs e = omega (arith, ap (λ (l : List ℕ). get_or l 80 0) e)

pub mixed_tells_none : TellASecond mixed → ⊥
mixed_tells_none h =
    let t : h.0 ≡ morning = sym (minute_is_told h.0 h.1 h.2) ∙ (ap told_minute h.3 ∙ mixed_minute) in
    let s : h.1 ≡ 1 = sym (second_is_told h.0 h.1 h.2) ∙ (ap told_second h.3 ∙ mixed_second) in
    mixed_differs (sym (ap (λ k. elements k 1) t) ∙ (sym (ap (elements h.0) s) ∙ h.3))

pub mixed_begins : IsNext [] (Fall 0 (take 99 mixed))
unfolding day_at
mixed_begins = (may_at_0, omega arith, each_element (take 99 mixed) refl)

-- a frame may begin at once
pub may_begin : IsNext [] (Fall 0 [])
may_begin = (may_at_0, omega arith, λ k d h. absurd (omega (arith, h)))

-- 9 ms after its begin no element ends
pub nine_is_no_end : (e : ℕ) → IsElement e → 9 ≡ next_start 0 [] + width e → ⊥
nine_is_no_end e is at = omega (arith, at, width_is e is)

-- a whole frame is read
pub read_one : (f : Frame) (rest : List ℕ) → AreInOrder (f ∷ []) → IsReadTo (frame_text f ++ rest) (f ∷ []) NextFrame rest
read_one f rest order = record { order = order; begins = tt; parts = ap (λ l. l ++ rest) (sym (append-nil (frame_text f))) }
