use Rattle.std.proofs.Common.{◌≡◌, ◌-◌, min, length, get_or}
use Rattle.symbol_cost.specs.declared.limits.TheConstants.{SECOND_COST}
use Rattle.symbol_cost.proofs.RowLaws.{GrownTo, no_costs}
use Rattle.symbol_cost.proofs.second.above_least.Given as goal

abbrev pub invariant-loop-x : goal.invariant-loop-x
invariant-loop-x l = record {
  long : length l.above ≡ 5;
  grown : GrownTo no_costs l.above l.x SECOND_COST (λ y. min l.most (get_or l.costs y 0) - l.least);
}
