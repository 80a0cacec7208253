use Rattle.std.proofs.Common.{◌≡◌, All, length, map}
use Rattle.std.specs.List.{range_with_len}
use Rattle.std.specs.List.Sorted.{IsNonDecreasingBy}
use Rattle.signal_base.specs.Limits.{IsTuned}
use Rattle.signal_base.specs.Number.{number_of}
use Rattle.definitions.specs.heard.Receivers.{receptions}
use Rattle.align.specs.Receivers.{receivers}
use Rattle.due.specs.Trials.{trial_receiver}
use Rattle.bank.proofs.trial.bank_of_trial.Given as goal

abbrev pub invariant-loop-i : goal.invariant-loop-i
invariant-loop-i l = record {
  heard : receivers l.stations.items (receptions l.tunings.items l.logs.items) ≡ map (trial_receiver l.number) (range_with_len 0 l.i);
  stations : length l.stations.items ≡ l.i;
  tunings : length l.tunings.items ≡ l.i;
  logs : length l.logs.items ≡ l.i;
  tuned : All IsTuned l.tunings.items;
  same : All (λ s. s ≡ l.station) l.stations.items;
  in_order : IsNonDecreasingBy number_of l.stations.items;
}
