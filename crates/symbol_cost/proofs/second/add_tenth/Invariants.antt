use Rattle.std.proofs.Common.{◌≡◌, false, length, get_or}
use Rattle.signal_base.specs.Waveform.{waveform}
use Rattle.definitions.specs.heard.Costs.{tenth_cost}
use Rattle.symbol_cost.specs.declared.limits.TheConstants.{TENTH_COST}
use Rattle.symbol_cost.proofs.RowLaws.{GrownTo}
use Rattle.symbol_cost.proofs.second.add_tenth.Given as goal

abbrev pub invariant-loop-x : goal.invariant-loop-x
invariant-loop-x l = record {
  long : length l.costs ≡ 5;
  grown : GrownTo l.fn.costs l.costs l.x TENTH_COST (λ y. tenth_cost l.table (get_or (waveform l.station y) l.j false) l.count);
}
