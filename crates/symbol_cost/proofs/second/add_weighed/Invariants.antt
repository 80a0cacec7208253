use Rattle.std.proofs.Common.{◌≡◌, ◌*◌, length, get_or}
use Rattle.symbol_cost.specs.declared.limits.TheConstants.{RECEIVER_COST}
use Rattle.symbol_cost.proofs.RowLaws.{GrownTo}
use Rattle.symbol_cost.proofs.second.add_weighed.Given as goal

abbrev pub invariant-loop-x : goal.invariant-loop-x
invariant-loop-x l = record {
  long : length l.row ≡ 5;
  grown : GrownTo l.fn.row l.row l.x RECEIVER_COST (λ y. l.weight * get_or l.costs y 0);
}
