use Rattle.std.proofs.Common.{◌≡◌, ◌-◌, ◌<◌, ◌≤◌, ℕ, false}
use Rattle.slot_columns.specs.Parts.{most_cost}
use Rattle.walk_costs.specs.Near.{IsFollowed, StaysNear}
use Rattle.walk_costs.specs.Walks.{cost_of}
use Rattle.walk_costs.proofs.walks.StationWalks.least_near.Given as goal

abbrev pub invariant-loop-near : goal.invariant-loop-near
invariant-loop-near l = record {
  begun : l.run ≤ l.near.last;
  followed : (r : ℕ) → l.run ≤ r → r < l.near.last → IsFollowed l.self.parts r;
  floor : (r t0 : ℕ) → l.run ≤ r → r < l.near.last → StaysNear l.self l.costs.second t0 r → l.near.floor ≤ cost_of l.self false l.costs.second t0;
  first : l.near.last ≡ l.run → l.near.floor ≡ most_cost l.self.grid;
  above : l.run < l.near.last → l.enough < l.near.floor;
  bound : l.near.floor ≤ most_cost l.self.grid;
}

abbrev pub decreases-loop-near : goal.decreases-loop-near
decreases-loop-near l = l.costs.to - l.near.last
