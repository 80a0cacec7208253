-- The text that is printed of a decided answer: it is that of frames in order, and it isn't too large to be read.
use Rattle.std.proofs.Common.{◌≡◌, ℕ, ◌+◌, ◌*◌, ◌<◌, ◌≤◌, ◌==◌, Bool, true, false, if◌then◌else◌, List, [], ◌∷◌, ◌++◌, get_or, length, sum_by, refl, sym, subst, arith, length-append}
use Rattle.std.specs.Fmt.{decimal}
use Rattle.std.proofs.lemmas.Fmt.{length-decimal-le}
use Rattle.std.proofs.lemmas.List.Concat.{length-flat_map}
use Rattle.std.proofs.lemmas.List.Sums.{sum_by-le}
use Rattle.std.proofs.lemmas.List.FromFn.{length-map-range_with_len}
use Rattle.signal_base.specs.declared.window.Window.{Window}
use Rattle.signal_base.specs.declared.limits.TheConstants.{MOST_SECONDS, START_LIMIT}
use Rattle.definitions.specs.declared.answer.Answer.{Answer}
use Rattle.definitions.specs.declared.answer.Answer.TheVariants as answers
use Rattle.definitions.specs.declared.sequence.Sequence.{Sequence}
use Rattle.formats.specs.declared.frame.Frame.{Frame}
use Rattle.formats.specs.declared.frame.TheConstants.{EDGE_LIMIT, ELEMENTS, ELEMENT_TIME, FRAMES_LIMIT, FRAME_LIMIT, MOST_FRAMES}
use Rattle.formats.specs.declared.words.Asked.{Asked}
use Rattle.formats.specs.Bytes.{letter_h, letter_l, line_feed, space}
use Rattle.formats.specs.Frames.{edge, element, elements, frame_text, frames_text, pulses, width}
use Rattle.formats.specs.FrameTexts.{AreInOrder}
use Rattle.formats.specs.FrameWalks.{walk_frames}
use Rattle.formats.proofs.FrameWalkLaws.{walk_in_order}
use Rattle.definitions.specs.time.Calendar.{utc_fields}
use Rattle.due.specs.declared.frame_due.FrameDue.TheVariants as frame_dues
use Rattle.due.specs.Banks.{Bank, IsBankAnswer, bank_of, start_of, window_of}
use Rattle.due.specs.FrameDues.{frame_due_text}
use Rattle.due.specs.FrameOrders.{AsksReading}
use Rattle.due.specs.FrameRules.{Answered, Bad_bank, Bad_line, Bad_words, Good, IsFrameDue, Of_text, Too_large, framed}
use Rattle.due.specs.Inputs.{Contents, FramesText}
use Rattle.due.proofs.FrameDueLaws.{asked_in_range}
use Rattle.due.proofs.WindowLaws.{phase_in_range, start_in_range}

-- the line of an edge has at most 16 bytes
edge_is_short : (letter ms : ℕ) → ms < EDGE_LIMIT → length (edge letter ms) ≤ 16
edge_is_short letter ms below =
    omega (
      arith,
      length-append (decimal ms ++ space ∷ letter ∷ []) (line_feed ∷ []),
      length-append (decimal ms) (space ∷ letter ∷ []),
      length-decimal-le 13 ms (omega arith) (omega (arith, below)) (omega (arith, below)),
    )

by_tests : (none one : Bool) → (if none then 2 else if one then 5 else 8) ≤ 8
by_tests true one = omega arith
by_tests false true = omega arith
by_tests false false = omega arith

at_most_8 : (e : ℕ) → width e ≤ 8
at_most_8 e = by_tests (e == 0) (e == 1)

-- and the pulse of an element twice as many
pulses_are_short : (ms : ℕ) (es : List ℕ) → ms + ELEMENT_TIME * length es < EDGE_LIMIT → length (pulses ms es) ≤ 32 * length es
pulses_are_short ms [] below = omega arith
pulses_are_short ms (e ∷ es) below =
    let wide = at_most_8 e in
    let rest = pulses (ms + ELEMENT_TIME) es in
    omega (
      arith,
      length-append (edge letter_h ms) (edge letter_l (ms + width e) ++ rest),
      length-append (edge letter_l (ms + width e)) rest,
      edge_is_short letter_h ms (omega (arith, below)),
      edge_is_short letter_l (ms + width e) (omega (arith, below, wide)),
      pulses_are_short (ms + ELEMENT_TIME) es (omega (arith, below)),
    )

hundred_are_short : (ms : ℕ) (es : List ℕ) → length es ≡ ELEMENTS → ms < FRAME_LIMIT → length (pulses ms es) ≤ 3200
hundred_are_short ms es long early = omega (arith, long, pulses_are_short ms es (omega (arith, long, early)))

frame_is_short : (f : Frame) → f.at < FRAME_LIMIT → length (frame_text f) ≤ 3200
frame_is_short f early =
    hundred_are_short f.at (elements f.minute f.second) (length-map-range_with_len (element (utc_fields f.minute) f.second) 0 ELEMENTS) early

fits : (n sum count : ℕ) → n ≡ sum → sum ≤ count * 3200 → count ≤ MOST_FRAMES → n ≤ FRAMES_LIMIT
fits n sum count is few most = omega (arith, is, few, most)

-- the text of frames in order isn't too large
pub frames_fit : (frames : List Frame) → AreInOrder frames → length (frames_text frames) ≤ FRAMES_LIMIT
frames_fit frames order =
    fits (length (frames_text frames)) (sum_by (λ f. length (frame_text f)) frames) (length frames) (length-flat_map frame_text frames)
    (sum_by-le (λ f. length (frame_text f)) 3200 frames (λ k d h. frame_is_short (get_or frames k d) (order.starts k d h))) order.most

-- the frames that are due of a decided answer are in order
module _ (contents : Contents) (window : Window) (q : Sequence) where
  same_parts : (other : Window) (r : Sequence) → frame_dues.Frames window q ≡ frame_dues.Frames other r → (other ≡ window) × (r ≡ q)
  same_parts other r e = (cc, cc)

  of_answer : (asked : Asked) (bank : Bank) (answer : Answer) → (window_of asked bank.receivers).start < START_LIMIT → asked.seconds ≤ MOST_SECONDS
      → IsBankAnswer (window_of asked bank.receivers) bank answer → frame_dues.Frames window q ≡ framed (window_of asked bank.receivers) bank answer
      → AreInOrder (walk_frames window q)
  of_answer asked bank answers.Nothing early few is e = absurd cc
  of_answer asked bank (answers.Undecided c r s) early few is e = absurd cc
  of_answer asked bank (answers.Decided c r next) early few is e =
      let same = same_parts (window_of asked bank.receivers) r e in
      subst (λ (w : Window). AreInOrder (walk_frames w q)) same.0
      (subst (λ (s : Sequence). AreInOrder (walk_frames (window_of asked bank.receivers) s)) same.1
      (walk_in_order (window_of asked bank.receivers) r is.0.is_admitted.0.0 few early (phase_in_range (start_of asked bank.receivers) asked.seconds bank.receivers)))

  pub due_in_order : (words : List (List ℕ)) → IsFrameDue words contents (frame_dues.Frames window q) → AreInOrder (walk_frames window q)
  due_in_order words (Bad_words fault is e) = absurd cc
  due_in_order words (Bad_bank config asked asks refusal bad e) = absurd cc
  due_in_order words (Answered config asked asks plain records loaded told) =
      let ranges = asked_in_range words config asked asks in
      of_answer asked (bank_of plain records) told.0 (start_in_range contents plain records asked ranges loaded.good) ranges.not_long told.1 told.2
  due_in_order words (Of_text file asks (Too_large large e)) = absurd cc
  due_in_order words (Of_text file asks (Bad_line fits line fault bad e)) = absurd cc
  due_in_order words (Of_text file asks (Good fits frames is e)) = absurd cc

  -- and what is printed of it is read as them
  pub printed_is_read : (words reading : List (List ℕ)) (later : Contents) (file : List ℕ) → IsFrameDue words contents (frame_dues.Frames window q) → AsksReading reading file
      → later FramesText ≡ frame_due_text (frame_dues.Frames window q) → IsFrameDue reading later (frame_dues.Read (walk_frames window q))
  printed_is_read words reading later file due asks held =
      let order = due_in_order words due in
      Of_text file asks
      (Good (subst (λ (bytes : List ℕ). length bytes ≤ FRAMES_LIMIT) (sym held) (frames_fit (walk_frames window q) order)) (walk_frames window q) (order, held) refl)
