-- Whether the slots so far lie in one day.
use Rattle.std.proofs.Common.{◌≡◌, ◌≤◌}
use Rattle.definitions.specs.heard.Costs.{lies_in_one_day}
use Rattle.definitions.specs.sequences.Walks.{place_at}
use Rattle.heard.proofs.values.lies_in_one_day.Given as goal

abbrev pub invariant-loop-slot : goal.invariant-loop-slot
invariant-loop-slot l = record {
  here : l.place ≡ place_at l.q l._slot;
  second : l.place.1 ≤ 60;
  one_day : l.one_day ≡ lies_in_one_day l._slot l.q;
}
