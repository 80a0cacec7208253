use Rattle.std.proofs.Common.{◌≡◌, ◌≤◌, ◌<◌, ℕ, bit_or, length, slice_index}
use Rattle.signal_base.specs.declared.limits.TheConstants.{MOST_SECONDS}
use Rattle.definitions.specs.sequences.Walks.{place_at, set_at}
use Rattle.plain_costs.proofs.unions.add_walk.Given as goal

abbrev pub invariant-loop-slot : goal.invariant-loop-slot
invariant-loop-slot l = record {
  here : l.place ≡ place_at l.q l.slot;
  second : l.place.1 ≤ 60;
  long : length l.sets ≡ MOST_SECONDS;
  done : (k : ℕ) → k < l.slot → slice_index l.sets k ≡ bit_or (slice_index l.fn.sets k) (set_at l.station l.q k);
  rest : (k : ℕ) → l.slot ≤ k → slice_index l.sets k ≡ slice_index l.fn.sets k;
}
