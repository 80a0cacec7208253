use Rattle.std.proofs.Common.{◌≡◌, take, map, length}
use Rattle.definitions.specs.heard.Costs.{dut_of}
use Rattle.symbol_cost.specs.Grid.{cost_at}
use Rattle.bank.proofs.decoding.duts_of.Given as goal

abbrev pub invariant-loop-i : goal.invariant-loop-i
invariant-loop-i l = record {
  told : l.duts ≡ map (λ grid. record { station = grid.station; dut = dut_of grid.station (cost_at grid.rows) l.window.seconds l.sequence }) (take l.i l.grids);
  count : length l.duts ≡ l.i;
}
