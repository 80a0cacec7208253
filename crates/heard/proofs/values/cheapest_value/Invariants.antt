-- The best of the values so far.
use Rattle.definitions.specs.heard.Costs.{dut1_cost}
use Rattle.formats.proofs.CheapestLaws.{IsBest}
use Rattle.symbol_cost.specs.Grid.{cost_at}
use Rattle.plain_costs.specs.Tenths.{tenths_at}
use Rattle.heard.proofs.values.cheapest_value.Given as goal

abbrev pub invariant-loop-i : goal.invariant-loop-i
invariant-loop-i l = IsBest (λ i. dut1_cost l.grid.station (cost_at l.grid.rows) l.window.seconds l.q (tenths_at l.grid.station i)) l.i l.best
