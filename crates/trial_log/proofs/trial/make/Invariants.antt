use Rattle.std.proofs.Common.{◌≡◌, map}
use Rattle.std.specs.List.{range_with_len}
use Rattle.trial_log.specs.Clean.{log_text}
use Rattle.trial_log.specs.Trials.{trial_records}
use Rattle.trial_log.proofs.trial.make.Given as goal

abbrev pub invariant-loop-receiver : goal.invariant-loop-receiver
invariant-loop-receiver l =
    map (λ log. log.items) l.logs.items ≡ map (λ receiver. log_text (trial_records l.number receiver)) (range_with_len 0 l.receiver)
