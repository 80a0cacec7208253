use Rattle.std.proofs.Common.{◌≡◌, ◌+◌, ◌*◌}
use Rattle.definitions.specs.heard.Costs.{second_cost}
use Rattle.symbol_cost.specs.Rows.{heard}
use Rattle.symbol_cost.proofs.RowLaws.{RowsGrownTo}
use Rattle.symbol_cost.proofs.receivers.add_receiver.Given as goal

abbrev pub invariant-loop-slot : goal.invariant-loop-slot
invariant-loop-slot l = record {
  grown : RowsGrownTo l.station l.fn.rows l.rows l.slot (λ k x. second_cost l.table (heard l.tuning l.log) l.station (l.begin + l.tuning.delay + 1000 * k) x);
  at : l.tenths.at ≡ l.begin + l.tuning.delay + 1000 * l.slot;
  log : l.tenths.log ≡ l.log;
}
