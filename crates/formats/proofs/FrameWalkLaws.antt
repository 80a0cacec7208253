-- The frames of a walk are in order.
use Rattle.std.proofs.Common.{ℕ, zero, suc, ◌+◌, ◌<◌, ◌≤◌, Bool, true, false, ◌&&◌, if◌then◌else◌, map, sym, subst, arith}
use Rattle.std.specs.List.{All, range_with_len}
use Rattle.std.proofs.lemmas.List.FromFn.{get_or-map-range_with_len, length-map-range_with_len}
use Rattle.signal_base.specs.declared.limits.TheConstants.{MOST_SECONDS, START_LIMIT}
use Rattle.signal_base.specs.declared.window.Window.{Window}
use Rattle.definitions.specs.declared.sequence.Sequence.{Sequence}
use Rattle.definitions.specs.time.Calendar.{is_leap_end}
use Rattle.definitions.specs.sequences.Walks.{IsWalkable, place_at}
use Rattle.definitions.proofs.PlaceLaws.{within_minute}
use Rattle.formats.specs.declared.frame.Frame.{Frame}
use Rattle.formats.specs.declared.frame.TheConstants.{FRAME_LIMIT, FRAME_TIME}
use Rattle.formats.specs.FrameTexts.{AreApart, AreInOrder, IsSecond}
use Rattle.formats.specs.FrameWalks.{walk_frame, walk_frames}

-- frames that are made one after another, each a second after the one before
made_apart : (f : ℕ → Frame) → ((k : ℕ) → (f k).at + FRAME_TIME ≤ (f (k + 1)).at) → (a n : ℕ) → AreApart (map f (range_with_len a n))
made_apart f each a zero = tt
made_apart f each a (suc zero) = tt
made_apart f each a (suc (suc n)) = (each a, made_apart f each (a + 1) (suc n))

each_made : (P : Frame → Type 0) (f : ℕ → Frame) (n : ℕ) → ((k : ℕ) → k < n → P (f k)) → All P (map f (range_with_len 0 n))
each_made P f n each = λ k d h.
    let within : k < n = subst (λ m. k < m) (length-map-range_with_len f 0 n) h in
    subst P (sym (get_or-map-range_with_len f 0 n k k d within (omega arith))) (each k within)

-- a minute has the most seconds where a leap second is announced
most_seconds : (announced leap : Bool) (s : ℕ) → s < (if announced && leap then 61 else 60) → s < (if true && leap then 61 else 60)
most_seconds true leap s lt = lt
most_seconds false true s lt = omega (arith, lt)
most_seconds false false s lt = lt

pub walk_in_order : (window : Window) (q : Sequence) → IsWalkable window q → window.seconds ≤ MOST_SECONDS → window.start < START_LIMIT → window.phase < 1000
    → AreInOrder (walk_frames window q)
walk_in_order window q walks short early phase = record {
  most = omega (arith, length-map-range_with_len (walk_frame window q) 0 window.seconds, short);
  seconds = each_made (λ f. IsSecond f.minute f.second) (walk_frame window q) window.seconds (λ k within. (
    (walks.encoded k within).0,
    most_seconds q.announced (is_leap_end (place_at q k).0) (place_at q k).1 (within_minute q walks.second k),
  ));
  starts = each_made (λ f. f.at < FRAME_LIMIT) (walk_frame window q) window.seconds (λ k within. omega (arith, within, short, early, phase));
  apart = made_apart (walk_frame window q) (λ k. omega arith) 0 window.seconds;
}
