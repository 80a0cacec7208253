use Rattle.std.proofs.Common.{◌+◌, ◌<◌, ◌≤◌, ℕ}
use Rattle.slot_columns.specs.Parts.{most_cost}
use Rattle.walk_costs.specs.Walks.{cost_of}
use Rattle.walk_costs.proofs.walks.StationWalks.least_among.Given as goal

abbrev pub invariant-loop-t0 : goal.invariant-loop-t0
invariant-loop-t0 l = record {
  floor : (t : ℕ) → l.lo ≤ t → t < l.t0 → l.least + l.added ≤ cost_of l.self l.announced l.p t;
  small : l.lo < l.t0 → l.least + l.added ≤ most_cost l.self.grid;
}
