use Rattle.std.proofs.Common.{◌≡◌, ℕ, ◌+◌, ◌*◌, ◌<◌, ◌≤◌, get_or}
use Rattle.signal_base.specs.Waveform.{symbol_count}
use Rattle.definitions.specs.heard.Costs.{sum_below}
use Rattle.symbol_cost.specs.declared.limits.TheConstants.{TENTH_COST}
use Rattle.symbol_cost.proofs.RowLaws.{symbol_tenth}
use Rattle.symbol_cost.proofs.second.next_costs.Given as goal

abbrev pub invariant-loop-j : goal.invariant-loop-j
invariant-loop-j l = record {
  costs : (x : ℕ) → x < symbol_count l.station → get_or l.costs x 0 ≡ sum_below l.j (symbol_tenth l.table l.fn.tenths.log l.fn.tenths.at l.station x);
  bound : (x : ℕ) → get_or l.costs x 0 ≤ TENTH_COST * l.j;
  at : l.tenths.at ≡ l.fn.tenths.at + 100 * l.j;
  log : l.tenths.log ≡ l.fn.tenths.log;
}
