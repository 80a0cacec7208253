use Rattle.std.proofs.Common.{◌≡◌, ◌<◌, ◌≤◌, ℕ, true, length, slice_index}
use Rattle.signal_base.specs.declared.limits.TheConstants.{MOST_SECONDS}
use Rattle.signal_base.specs.Mask.{has_bit}
use Rattle.definitions.specs.sequences.Walks.{set_at}
use Rattle.leap_unions.specs.Pieces.{announced_from}
use Rattle.leap_unions.proofs.together.walks_of.Given as goal

abbrev pub invariant-loop-first : goal.invariant-loop-first
invariant-loop-first l = record {
  long : length l.sets ≡ MOST_SECONDS;
  each : (t k x : ℕ) → l.lo ≤ t → t < l.first → k < l.fn._seconds → has_bit (set_at l.fn._station (announced_from l.p t) k) x ≡ true → has_bit (slice_index l.sets k) x ≡ true;
}
