use Rattle.std.proofs.Common.{◌≡◌, ◌++◌, drop}
use Rattle.trial_log.specs.Clean.{log_text}
use Rattle.trial_log.specs.Trials.{moved, moved_inner, noise_of}
use Rattle.trial_log.proofs.noisy.noisy_text.Given as goal

abbrev pub invariant-loop-i : goal.invariant-loop-i
invariant-loop-i l =
    l.text.items ++ log_text (moved_inner l.noise (drop l.i l.rest)) ≡ log_text (moved (noise_of l.number l.receiver) l.clean)
