use Rattle.std.proofs.Common.{◌≡◌, ◌≤◌, ◌<◌, ℕ, length, slice_index}
use Rattle.definitions.specs.sequences.Walks.{place_at, set_at}
use Rattle.leap_unions.specs.Tapes.{AreSent}
use Rattle.leap_unions.specs.declared.tapes.TheConstants.{TAPE_PLACES}
use Rattle.leap_unions.proofs.tapes.tape_of.Given as goal

abbrev pub invariant-loop-k : goal.invariant-loop-k
invariant-loop-k l = record {
  here : l.place ≡ place_at l.q l.k;
  second : l.place.1 ≤ 60;
  sent : 0 < l.place.1 → AreSent l.station l.q.announced l.place.0 l.sent;
  long : length l.tape ≡ TAPE_PLACES;
  done : (k : ℕ) → k < l.k → slice_index l.tape k ≡ set_at l.station l.q k;
}
