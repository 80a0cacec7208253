-- The frames of a walk, one after the other.
use Rattle.std.proofs.Common.{◌≡◌, ℕ, zero, suc, ◌+◌, ◌<◌, ◌≤◌, true, List, [], ◌∷◌, ◌++◌, map, Ok, Err, refl, sym, ap, ◌∙◌, subst, arith, append_assoc, append-nil, zero-add}
use Rattle.std.specs.List.{range_with_len}
use Rattle.std.proofs.lemmas.Grind.{flat_map-append}
use Rattle.std.proofs.lemmas.List.FromFn.{get_or-map-range_with_len, length-map-range_with_len, map-range_with_len_more}
use Rattle.signal_base.specs.declared.window.Window.{Window}
use Rattle.definitions.specs.declared.sequence.Sequence.{Sequence}
use Rattle.definitions.specs.sequences.Walks.{place_at}
use Rattle.definitions.specs.time.Places.{Place}
use Rattle.formats.specs.declared.frame.Frame.{Frame}
use Rattle.formats.specs.declared.frame.TheConstants.{FRAME_LIMIT}
use Rattle.formats.specs.Frames.{frame_text, frames_text}
use Rattle.formats.specs.FrameTexts.{IsSecond}
use Rattle.formats.specs.FrameWalks.{walk_frame, walk_frames}
use Rattle.formats.specs.Reports.{slot_begin}
use Rattle.formats.proofs.FrameWalkLaws.{walk_in_order}
use Rattle.bank_files.specs.Told.{output_name}
use Rattle.bank_files.specs.Seen.{Seen, Writes}
use Rattle.bank_files.proofs.Chaining.{Writes-failed, Writes-then}
use Rattle.texts.proofs.MinuteLaws.{at_most_61}
use Rattle.frame_runs.specs.Finding.{IsToBeFramed}

-- frames that f makes, one more, and those that come after the first k
one_more : (f : ℕ → Frame) (k : ℕ) → frames_text (map f (range_with_len 0 (k + 1))) ≡ frames_text (map f (range_with_len 0 k)) ++ frame_text (f k)
one_more f k =
    ap frames_text (map-range_with_len_more f 0 k k (zero-add k))
    ∙ (flat_map-append frame_text (map f (range_with_len 0 k)) (f k ∷ [])
    ∙ ap (λ l. frames_text (map f (range_with_len 0 k)) ++ l) (append-nil (frame_text (f k))))

rest_of : (f : ℕ → Frame) (a k n : ℕ) → k ≤ n
    → (rest : List ℕ) × (frames_text (map f (range_with_len a k)) ++ rest ≡ frames_text (map f (range_with_len a n)))
rest_of f a zero n le = (frames_text (map f (range_with_len a n)), refl)
rest_of f a (suc k) zero le = absurd (omega (arith, le))
rest_of f a (suc k) (suc n) le =
    let more = rest_of f (a + 1) k n (omega (arith, le)) in
    (more.0, append_assoc (frame_text (f a)) (frames_text (map f (range_with_len (a + 1) k))) more.0 ∙ ap (λ l. frame_text (f a) ++ l) more.1)

-- the frame that tells this place in this slot
abbrev pub told_at : Window → Place → ℕ → Frame
told_at window place k = record { at = slot_begin window k; minute = place.0; second = place.1 }

module _ {E : Type 0} (window : Window) (q : Sequence) (k : ℕ) (old mid new : Seen) (frame : Frame) (place : Place)
    (is : frame ≡ told_at window place k) (at : place ≡ place_at q k)
    (so_far : Writes {E = E} output_name old mid (frames_text (map (walk_frame window q) (range_with_len 0 k))) (Ok tt)) where
  frame_is : frame ≡ walk_frame window q k
  frame_is = is ∙ ap (λ (p : Place). told_at window p k) at

  -- one more frame is written
  pub walk_goes_on : Writes {E = E} output_name mid new (frame_text frame) (Ok tt)
      → Writes {E = E} output_name old new (frames_text (map (walk_frame window q) (range_with_len 0 (k + 1)))) (Ok tt)
  walk_goes_on written =
      subst (λ (text : List ℕ). Writes {E = E} output_name old new text (Ok tt))
      (ap (λ (f : Frame). frames_text (map (walk_frame window q) (range_with_len 0 k)) ++ frame_text f) frame_is ∙ sym (one_more (walk_frame window q) k))
      (Writes-then {E = E} output_name old mid new (frames_text (map (walk_frame window q) (range_with_len 0 k))) (frame_text frame) (Ok tt) so_far written)

  -- or a front of it, which is a front of the whole
  pub walk_fails : (e : E) → k < window.seconds → Writes output_name mid new (frame_text frame) (Err e)
      → Writes output_name old new (frames_text (walk_frames window q)) (Err e)
  walk_fails e within written =
      let rest = rest_of (walk_frame window q) 0 (k + 1) window.seconds (omega (arith, within)) in
      subst (λ (text : List ℕ). Writes output_name old new text (Err e)) rest.1
      (Writes-failed output_name old new (frames_text (map (walk_frame window q) (range_with_len 0 (k + 1)))) rest.0 e
      (subst (λ (text : List ℕ). Writes output_name old new text (Err e))
      (ap (λ (f : Frame). frames_text (map (walk_frame window q) (range_with_len 0 k)) ++ frame_text f) frame_is ∙ sym (one_more (walk_frame window q) k))
      (Writes-then output_name old mid new (frames_text (map (walk_frame window q) (range_with_len 0 k))) (frame_text frame) (Err e) so_far written)))

-- each frame begins early enough, and its place is a second of the century
module _ (window : Window) (q : Sequence) (is : IsToBeFramed window q) (k : ℕ) (within : k < window.seconds) where
  second_at : IsSecond (place_at q k).0 (place_at q k).1
  second_at =
      let order = walk_in_order window q is.walkable is.not_long is.start is.phase in
      subst (λ (f : Frame). IsSecond f.minute f.second)
      (get_or-map-range_with_len (walk_frame window q) 0 window.seconds k k (walk_frame window q 0) within (zero-add k))
      (order.seconds k (walk_frame window q 0) (omega (arith, within, length-map-range_with_len (walk_frame window q) 0 window.seconds)))

  pub place_is_second : (place : Place) → place ≡ place_at q k → IsSecond place.0 place.1
  place_is_second place at = subst (λ (p : Place). IsSecond p.0 p.1) (sym at) second_at

  pub at_most_60 : (place : Place) → place ≡ place_at q k → place.1 ≤ 60
  at_most_60 place at = omega (arith, (place_is_second place at).1, at_most_61 true place.0)

  pub is_early : (frame : Frame) (place : Place) → frame ≡ told_at window place k → frame.at < FRAME_LIMIT
  is_early frame place e = subst (λ (f : Frame). f.at < FRAME_LIMIT) (sym e) (omega (arith, within, is.start, is.phase, is.not_long))
