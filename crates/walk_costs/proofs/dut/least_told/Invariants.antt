use Rattle.std.proofs.Common.{◌≡◌, ◌≤◌, Some, map}
use Rattle.definitions.specs.heard.Costs.{least}
use Rattle.plain_costs.proofs.ValueLaws.{values_below}
use Rattle.walk_costs.specs.Dates.{free_part, part_cost, told_part}
use Rattle.walk_costs.proofs.dut.least_told.Given as goal

abbrev pub invariant-loop-i : goal.invariant-loop-i
invariant-loop-i l = record {
  least : Some l.least ≡ least (map (λ d. part_cost l.columns l.p (told_part l.station d)) (values_below l.station l.i));
  not_less : part_cost l.columns l.p (free_part l.station) ≤ l.least;
}
