-- The digits so far are those of a time.
use Rattle.pulse_log.proofs.TimeLaws.{ReadsDigits}
use Rattle.pulse_log.proofs.line.time_in.Given as goal

abbrev pub invariant-loop-digit : goal.invariant-loop-digit
invariant-loop-digit l = ReadsDigits l.digits l.digit-index l.time
