use Rattle.std.proofs.Common.{◌≡◌, ◌*◌, length}
use Rattle.definitions.specs.heard.Dut1.{dut1_symbol}
use Rattle.symbol_cost.specs.Grid.{cost_at}
use Rattle.symbol_cost.specs.declared.limits.TheConstants.{RECEIVER_COST}
use Rattle.symbol_cost.proofs.RowLaws.{GrownTo}
use Rattle.plain_costs.specs.declared.tenths.TheConstants.{MOST_VALUES}
use Rattle.plain_costs.specs.Tenths.{tenths_at}
use Rattle.plain_costs.proofs.walk.add_told.Given as goal

abbrev pub invariant-loop-i : goal.invariant-loop-i
invariant-loop-i l = record {
  long : length l.told ≡ MOST_VALUES;
  grown : GrownTo l.fn.told l.told l.i (l.grid.receivers * RECEIVER_COST)
      (λ i. cost_at l.grid.rows l.slot (dut1_symbol l.station (tenths_at l.station i) l.second));
}
