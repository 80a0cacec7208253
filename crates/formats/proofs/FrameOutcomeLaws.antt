-- Each text has one outcome: it is that of frames in order, or it is refused for its first bad line.
use Rattle.std.proofs.Common.{◌≡◌, true, ℕ, zero, suc, ◌+◌, ◌<◌, ◌≤◌, ◌⊎◌, inl, inr, List, [], ◌∷◌, ◌++◌, length, refl, sym, ap, ◌∙◌, subst, arith, length-append}
use Rattle.std.proofs.lemmas.Bool.{cases_eq, cases_lt}
use Rattle.std.proofs.lemmas.List.{append-nil}
use Rattle.definitions.specs.time.Calendar.{century_minutes, minute_length}
use Rattle.definitions.proofs.ExistLaws.{Decided, decide_both, decide_le, decide_some}
use Rattle.formats.specs.declared.frame.Frame.{Frame}
use Rattle.formats.specs.declared.frame.FrameLineFault.{FrameLineFault}
use Rattle.formats.specs.declared.frame.FrameLineFault.TheVariants.{Meaning, Shape, Timing, TooManyFrames}
use Rattle.formats.specs.declared.frame.TheConstants.{ELEMENTS, FRAME_LIMIT, FRAME_TIME, MOST_FRAMES}
use Rattle.formats.specs.Frames.{edge, elements, frames_text, width}
use Rattle.formats.specs.FrameTexts.{BeginsWithEdge, HasOutcome, HasRoom, IsAfter, IsBadNext, IsElement, IsOver, IsReadTo, IsRefused, IsTextOf, IsTimely, Next, TellASecond, letter_at, line_due, next_start}
use Rattle.formats.specs.FrameTexts.Next.{NextFrame, Rise, Fall}
use Rattle.formats.proofs.LineLaws.{decide_bytes}
use Rattle.formats.proofs.FrameEdgeLaws.{decide_edge, edge_some}
use Rattle.formats.proofs.FrameReachLaws.{read_reaches, to_end}
use Rattle.formats.proofs.FrameRunLaws.{Reaches, State, frame_of, letters, one_end}
use Rattle.formats.proofs.FrameStepLaws.{read_begin, read_fall, read_frame, read_rise}
use Rattle.formats.proofs.FrameStuckLaws.{bad_once, bad_stuck, end_not_bad, end_stuck}

-- where a text ends, or is refused
text_reaches : (text : List ℕ) (frames : List Frame) → IsTextOf frames text → Reaches ([], NextFrame) text (frames, NextFrame) []
text_reaches text frames h =
    subst (λ t. Reaches ([], NextFrame) t (frames, NextFrame) []) (sym (h.1 ∙ sym (append-nil (frames_text frames)))) (to_end frames [] h.0)

abbrev state_of : (text : List ℕ) (n : ℕ) (fault : FrameLineFault) → IsRefused text n fault → State
state_of text n fault h = (h.frames, h.next)

frames_in : (frames more : List Frame) (next after : Next) → ◌≡◌ {A = State} (frames, next) (more, after) → (frames ≡ more) × (next ≡ after)
frames_in frames more next after e = (ap (λ (s : State). s.0) e, ap (λ (s : State). s.1) e)

pub one_list : (text : List ℕ) (a b : List Frame) → IsTextOf a text → IsTextOf b text → a ≡ b
one_list text a b h k =
    let r = text_reaches text a h in
    let s = text_reaches text b k in
    (frames_in a b NextFrame NextFrame (one_end r.0 s.0 ([], NextFrame) (a, NextFrame) (b, NextFrame) text [] [] r.1 s.1 (end_stuck a) (end_stuck b)).0).0

pub one_refusal : (text : List ℕ) (m n : ℕ) (a b : FrameLineFault) → IsRefused text m a → IsRefused text n b → (m ≡ n) × (a ≡ b)
one_refusal text m n a b h k =
    let r = read_reaches text h.frames h.next h.rest h.read in
    let s = read_reaches text k.frames k.next k.rest k.read in
    let same = one_end r.0 s.0 ([], NextFrame) (h.frames, h.next) (k.frames, k.next) text h.rest k.rest r.1 s.1
    (bad_stuck h.frames h.next h.rest a h.bad) (bad_stuck k.frames k.next k.rest b k.bad) in
    let moved : IsBadNext k.frames k.next k.rest a =
    subst (λ (s : State). IsBadNext s.0 s.1 k.rest a) same.0 (subst (λ t. IsBadNext h.frames h.next t a) same.1 h.bad) in
    (h.is_due ∙ (ap (λ (s : State). line_due s.0 s.1) same.0 ∙ sym k.is_due), bad_once k.frames k.next k.rest a b moved k.bad)

pub text_not_refused : (text : List ℕ) (frames : List Frame) (n : ℕ) (fault : FrameLineFault) → IsTextOf frames text → IsRefused text n fault → ⊥
text_not_refused text frames n fault h k =
    let r = text_reaches text frames h in
    let s = read_reaches text k.frames k.next k.rest k.read in
    let same = one_end r.0 s.0 ([], NextFrame) (frames, NextFrame) (k.frames, k.next) text [] k.rest r.1 s.1 (end_stuck frames) (bad_stuck k.frames k.next k.rest fault k.bad) in
    end_not_bad frames fault (subst (λ (s : State). IsBadNext s.0 s.1 [] fault) (sym same.0) (subst (λ t. IsBadNext k.frames k.next t fault) (sym same.1) k.bad))

-- what a line is judged by can be decided
decide_over : (next : Next) (rest : List ℕ) → Decided (IsOver next rest)
decide_over NextFrame rest = decide_bytes rest []
decide_over (Rise start over) rest = inr (λ h. h)
decide_over (Fall start over) rest = inr (λ h. h)

decide_lt : (m n : ℕ) → Decided (m < n)
decide_lt m n = elim (cases_lt m n) [ inl lt ↦ inl lt | inr ge ↦ inr (λ lt. omega (arith, ge, lt)) ]

decide_after : (frames : List Frame) (ms : ℕ) → Decided (IsAfter frames ms)
decide_after [] ms = inl tt
decide_after (f ∷ []) ms = decide_le (f.at + FRAME_TIME) ms
decide_after (f ∷ g ∷ fs) ms = decide_after (g ∷ fs) ms

decide_room : (frames : List Frame) (next : Next) → Decided (HasRoom frames next)
decide_room frames NextFrame = decide_lt (length frames) MOST_FRAMES
decide_room frames (Rise start over) = inl tt
decide_room frames (Fall start over) = inl tt

decide_element : (start : ℕ) (over : List ℕ) (ms : ℕ) → Decided ((e : ℕ) × IsElement e × (ms ≡ next_start start over + width e))
decide_element start over ms = put (decide_some (λ e. ms ≡ next_start start over + width e) (λ e. cases_eq ms (next_start start over + width e)) 3)
  where
    put : Decided ((e : ℕ) × (e < 3) × (ms ≡ next_start start over + width e)) → Decided ((e : ℕ) × IsElement e × (ms ≡ next_start start over + width e))
    put (inl h) = inl (h.0, omega (arith, h.1), h.2)
    put (inr n) = inr (λ h. n (h.0, omega (arith, h.1), h.2))

decide_timely : (frames : List Frame) (next : Next) (ms : ℕ) → Decided (IsTimely frames next ms)
decide_timely frames NextFrame ms = decide_both (decide_lt ms FRAME_LIMIT) (decide_after frames ms)
decide_timely frames (Rise start over) ms = cases_eq ms (next_start start over)
decide_timely frames (Fall start over) ms = decide_element start over ms

decide_second : (es : List ℕ) → Decided (TellASecond es)
decide_second es =
    put (decide_some (λ t. (s : ℕ) × (s < minute_length true t) × (elements t s ≡ es))
    (λ t. decide_some (λ s. elements t s ≡ es) (λ s. decide_bytes (elements t s) es) (minute_length true t)) century_minutes)
  where
    put : Decided ((t : ℕ) × (t < century_minutes) × ((s : ℕ) × (s < minute_length true t) × (elements t s ≡ es))) → Decided (TellASecond es)
    put (inl h) = inl (h.0, h.2.0, (h.1, h.2.1), h.2.2)
    put (inr n) = inr (λ h. n (h.0, h.2.0, (h.1, h.2.1, h.3)))

module _ (text : List ℕ) where
  refused : (frames : List Frame) (next : Next) (rest : List ℕ) (fault : FrameLineFault) → IsReadTo text frames next rest → IsBadNext frames next rest fault → HasOutcome text
  refused frames next rest fault read bad =
      inr (line_due frames next, fault, record { frames = frames; next = next; rest = rest; read = read; is_due = refl; bad = bad })

  module _ (n : ℕ) (go_on : (frames : List Frame) (next : Next) (rest : List ℕ) → length rest < n → IsReadTo text frames next rest → HasOutcome text)
      (frames : List Frame) (rest : List ℕ) (small : length rest < suc n) where
    -- an edge that is timely
    timely : (next : Next) (ms : ℕ) (tail : List ℕ) → IsReadTo text frames next rest → BeginsWithEdge (letter_at next) rest ms → rest ≡ edge (letter_at next) ms ++ tail → length tail < n
        → HasRoom frames next → IsTimely frames next ms → HasOutcome text
    timely NextFrame ms tail read begins is less room time =
        go_on frames (Fall ms []) tail less (read_begin text frames tail ms rest read is (record { room = room; early = time.0; after = time.1 }))
    timely (Rise start over) ms tail read begins is less room time =
        go_on frames (Fall start over) tail less
        (read_rise text frames tail start over rest read (is ∙ ap (λ m. edge (letter_at (Rise start over)) m ++ tail) time))
    timely (Fall start over) ms tail read begins is less room time = by_place (cases_lt (length over + 1) ELEMENTS)
      where
        at : rest ≡ edge (letter_at (Fall start over)) (next_start start over + width time.0) ++ tail
        at = is ∙ ap (λ m. edge (letter_at (Fall start over)) m ++ tail) time.2

        by_meaning : length over + 1 ≡ ELEMENTS → Decided (TellASecond (over ++ time.0 ∷ [])) → HasOutcome text
        by_meaning last (inl m) =
            go_on (frames ++ frame_of start m.0 m.1 ∷ []) NextFrame tail less
            (read_frame text frames tail (frame_of start m.0 m.1) over time.0 rest read at m.2 m.3)
        by_meaning last (inr none) =
            refused frames (Fall start over) rest Meaning read
            (ms, begins, tt, time, λ means. none (means time.0 time.1 time.2 last))

        by_place : (length over + 1 < ELEMENTS) ⊎ (ELEMENTS ≤ length over + 1) → HasOutcome text
        by_place (inl short) = go_on frames (Rise start (over ++ time.0 ∷ [])) tail less (read_fall text frames tail start over time.0 rest read time.1 at short)
        by_place (inr long) = by_meaning (omega (arith, long, read.begins.1)) (decide_second (over ++ time.0 ∷ []))

    -- any edge, in the order in which it is judged
    judge_edge : (next : Next) (ms : ℕ) → IsReadTo text frames next rest → BeginsWithEdge (letter_at next) rest ms → Decided (HasRoom frames next) → Decided (IsTimely frames next ms) → HasOutcome text
    judge_edge next ms read begins (inr full) time = refused frames next rest TooManyFrames read (ms, begins, full)
    judge_edge next ms read begins (inl room) (inr not) = refused frames next rest Timing read (ms, begins, room, not)
    judge_edge next ms read begins (inl room) (inl time) =
        timely next ms begins.1.0 read begins begins.1.1
        (omega (arith, small, length-append (edge (letter_at next) ms) begins.1.0, edge_some (letter_at next) ms [], ap (λ (l : List ℕ). length l) begins.1.1, ap (λ (l : List ℕ). length l) (append-nil (edge (letter_at next) ms)))) room time

    judge : (next : Next) → IsReadTo text frames next rest → Decided (IsOver next rest) → Decided ((ms : ℕ) × BeginsWithEdge (letter_at next) rest ms) → HasOutcome text
    judge NextFrame read (inl over) begins =
        inl (frames, (read.order, read.parts ∙ (ap (λ l. frames_text frames ++ l) over ∙ append-nil (frames_text frames))))
    judge (Rise start over) read (inl none) begins = absurd none
    judge (Fall start over) read (inl none) begins = absurd none
    judge next read (inr more) (inr none) = refused frames next rest Shape read (more, λ ms begins. none (ms, begins))
    judge next read (inr more) (inl h) = judge_edge next h.0 read h.1 (decide_room frames next) (decide_timely frames next h.0)

  finishes : (n : ℕ) (frames : List Frame) (next : Next) (rest : List ℕ) → length rest < n → IsReadTo text frames next rest → HasOutcome text
  finishes zero frames next rest small read = absurd (omega (arith, small))
  finishes (suc n) frames next rest small read =
      judge n (finishes n) frames rest small next read (decide_over next rest) (decide_edge (letter_at next) (letters next) rest)

  pub text_has_outcome : HasOutcome text
  text_has_outcome =
      finishes (suc (length text)) [] NextFrame text (omega arith)
      (record { order = record { most = omega arith; seconds = λ k d h. absurd (omega (arith, h)); starts = λ k d h. absurd (omega (arith, h)); apart = tt }; begins = tt; parts = refl })
