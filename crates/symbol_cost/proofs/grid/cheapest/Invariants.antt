use Rattle.std.proofs.Common.{◌≡◌, ◌*◌, get_or}
use Rattle.definitions.proofs.CostLaws.{IsAtMost, least_below}
use Rattle.symbol_cost.specs.declared.limits.TheConstants.{RECEIVER_COST}
use Rattle.symbol_cost.proofs.grid.cheapest.Given as goal

abbrev pub invariant-loop-x : goal.invariant-loop-x
invariant-loop-x l = record {
  least : l.least ≡ least_below (λ x. get_or l.row x 0) l.set l.x;
  bound : IsAtMost (l.receivers * RECEIVER_COST) l.least;
}
