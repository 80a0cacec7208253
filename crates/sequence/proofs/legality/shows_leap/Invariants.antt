use Rattle.std.proofs.Common.{◌≡◌, ℕ, ◌<◌, ◌≤◌}
use Rattle.definitions.specs.sequences.Walks.{place_at, unannounced}
use Rattle.sequence.specs.Sets.{SetsDiffer}
use Rattle.sequence.proofs.legality.shows_leap.Given as goal

abbrev pub invariant-loop : goal.invariant-loop
invariant-loop l = record {
  here : l.place ≡ place_at l.q l.counter;
  there : l.twin ≡ place_at (unannounced l.q) l.counter;
  second : l.place.1 ≤ 60;
  twin_second : l.twin.1 ≤ 60;
  alike : (k : ℕ) → k < l.counter → SetsDiffer l.window.stations l.q.announced (place_at l.q k) (place_at (unannounced l.q) k) → ⊥;
}
