-- The digits so far are those of a time.
use Rattle.irig_frames.proofs.TimeLaws.{ReadsDigits}
use Rattle.irig_frames.proofs.edge.time_in.Given as goal

abbrev pub invariant-loop-digit : goal.invariant-loop-digit
invariant-loop-digit l = ReadsDigits l.digits l.digit-index l.time
