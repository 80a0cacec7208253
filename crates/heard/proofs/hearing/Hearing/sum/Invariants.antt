-- What the slots so far add up to.
use Rattle.std.proofs.Common.{◌≡◌, ◌*◌, ◌≤◌}
use Rattle.definitions.specs.heard.Costs.{sum_below}
use Rattle.definitions.specs.sequences.Walks.{place_at}
use Rattle.formats.specs.Heard.{receiver_heard}
use Rattle.symbol_cost.specs.declared.limits.TheConstants.{RECEIVER_COST}
use Rattle.heard.specs.Kept.{numbered_at}
use Rattle.heard.specs.Seen.{hearing_seen}
use Rattle.heard.proofs.hearing.Hearing.sum.Given as goal

abbrev pub invariant-loop-slot : goal.invariant-loop-slot
invariant-loop-slot l = record {
  here : l.place ≡ place_at l.self.sequence l.slot;
  second : l.place.1 ≤ 60;
  unknown : l.unknown ≡ sum_below l.slot (λ k. (receiver_heard (hearing_seen l.self) k (numbered_at l.self.bank l.self.places.items l.i)).unknown);
  cost : l.cost ≡ sum_below l.slot (λ k. (receiver_heard (hearing_seen l.self) k (numbered_at l.self.bank l.self.places.items l.i)).cost);
  few : l.unknown ≤ 10 * l.slot;
  bound : l.cost ≤ RECEIVER_COST * l.slot;
}
