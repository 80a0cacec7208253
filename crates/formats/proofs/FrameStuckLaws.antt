-- Where a text of frames ends or is refused, no line leads on, and it is refused in one way.
use Rattle.std.proofs.Common.{◌≡◌, ℕ, inl, inr, List, [], ◌∷◌, ◌++◌, length, refl, sym, ◌∙◌, subst, arith}
use Rattle.std.proofs.lemmas.List.{length_push}
use Rattle.formats.specs.declared.frame.Frame.{Frame}
use Rattle.formats.specs.declared.frame.FrameLineFault.{FrameLineFault}
use Rattle.formats.specs.declared.frame.FrameLineFault.TheVariants.{Meaning, Shape, Timing, TooManyFrames}
use Rattle.formats.specs.declared.frame.TheConstants.{ELEMENTS}
use Rattle.formats.specs.Bytes.{letter_h}
use Rattle.formats.specs.FrameTexts.{BeginsWithEdge, HasMeaning, HasRoom, IsBadNext, IsTimely, Next, TellASecond, letter_at}
use Rattle.formats.specs.FrameTexts.Next.{NextFrame, Rise, Fall}
use Rattle.formats.proofs.FrameEdgeLaws.{edge_once, no_edge}
use Rattle.formats.proofs.FrameRunLaws.{Ends, Goes, IsStuck, State, letters, one_element}

pub end_stuck : (frames : List Frame) → IsStuck (frames, NextFrame) []
end_stuck frames = λ ms tail after small is goes. no_edge letter_h ms tail is

-- what leads on is a good line
meant : (frames : List Frame) (start : ℕ) (es : List ℕ) (after : State) → length es ≡ ELEMENTS → Ends frames start es after → TellASecond es
meant frames start es after long (inl h) = absurd (omega (arith, long, h.0))
meant frames start es after long (inr h) = (h.1.0, h.1.1, h.1.2, h.1.3)

has_room : (frames : List Frame) (next : Next) (ms : ℕ) (after : State) → Goes frames next ms after → HasRoom frames next
has_room frames NextFrame ms after goes = goes.0.room
has_room frames (Rise start over) ms after goes = tt
has_room frames (Fall start over) ms after goes = tt

is_timely : (frames : List Frame) (next : Next) (ms : ℕ) (after : State) → Goes frames next ms after → IsTimely frames next ms
is_timely frames NextFrame ms after goes = (goes.0.early, goes.0.after)
is_timely frames (Rise start over) ms after goes = goes.0
is_timely frames (Fall start over) ms after goes = (goes.0, goes.1, goes.2)

has_meaning : (frames : List Frame) (next : Next) (ms : ℕ) (after : State) → Goes frames next ms after → HasMeaning next ms
has_meaning frames NextFrame ms after goes = tt
has_meaning frames (Rise start over) ms after goes = tt
has_meaning frames (Fall start over) ms after goes = λ e is at long.
    let same = one_element start over ms goes.0 e goes.1 is goes.2 at in
    meant frames start (over ++ e ∷ []) after (omega (arith, long, length_push over e)) (subst (λ d. Ends frames start (over ++ d ∷ []) after) same goes.3)

module _ (frames : List Frame) (next : Next) (rest : List ℕ) where
  same_time : (m n : ℕ) → BeginsWithEdge (letter_at next) rest m → BeginsWithEdge (letter_at next) rest n → m ≡ n
  same_time m n h k = (edge_once (letter_at next) (letters next) m n h.1.0 k.1.0 h.0 k.0 (sym h.1.1 ∙ k.1.1)).0

  pub bad_stuck : (fault : FrameLineFault) → IsBadNext frames next rest fault → IsStuck (frames, next) rest
  bad_stuck Shape bad = λ ms tail after small is goes. bad.1 ms (small, (tail, is))
  bad_stuck TooManyFrames bad = λ ms tail after small is goes. bad.2 (has_room frames next ms after goes)
  bad_stuck Timing bad = λ ms tail after small is goes.
      bad.3 (subst (IsTimely frames next) (same_time ms bad.0 (small, (tail, is)) bad.1) (is_timely frames next ms after goes))
  bad_stuck Meaning bad = λ ms tail after small is goes.
      bad.4 (subst (HasMeaning next) (same_time ms bad.0 (small, (tail, is)) bad.1) (has_meaning frames next ms after goes))

  -- a line is bad in one way
  pub bad_once : (a b : FrameLineFault) → IsBadNext frames next rest a → IsBadNext frames next rest b → a ≡ b
  bad_once Shape Shape h k = refl
  bad_once TooManyFrames TooManyFrames h k = refl
  bad_once Timing Timing h k = refl
  bad_once Meaning Meaning h k = refl
  bad_once Shape TooManyFrames h k = absurd (h.1 k.0 k.1)
  bad_once Shape Timing h k = absurd (h.1 k.0 k.1)
  bad_once Shape Meaning h k = absurd (h.1 k.0 k.1)
  bad_once TooManyFrames Shape h k = absurd (k.1 h.0 h.1)
  bad_once Timing Shape h k = absurd (k.1 h.0 h.1)
  bad_once Meaning Shape h k = absurd (k.1 h.0 h.1)
  bad_once TooManyFrames Timing h k = absurd (h.2 k.2)
  bad_once TooManyFrames Meaning h k = absurd (h.2 k.2)
  bad_once Timing TooManyFrames h k = absurd (k.2 h.2)
  bad_once Meaning TooManyFrames h k = absurd (k.2 h.2)
  bad_once Timing Meaning h k = absurd (h.3 (subst (IsTimely frames next) (same_time k.0 h.0 k.1 h.1) k.3))
  bad_once Meaning Timing h k = absurd (k.3 (subst (IsTimely frames next) (same_time h.0 k.0 h.1 k.1) h.3))

-- nothing is bad where a text may end
pub end_not_bad : (frames : List Frame) (fault : FrameLineFault) → IsBadNext frames NextFrame [] fault → ⊥
end_not_bad frames Shape bad = bad.0 refl
end_not_bad frames TooManyFrames bad = no_edge letter_h bad.0 bad.1.1.0 bad.1.1.1
end_not_bad frames Timing bad = no_edge letter_h bad.0 bad.1.1.0 bad.1.1.1
end_not_bad frames Meaning bad = no_edge letter_h bad.0 bad.1.1.0 bad.1.1.1
