use Rattle.minute_parts.specs.Filling.{IsFilled}
use Rattle.minute_parts.proofs.date_parts.date_part.Given as goal

abbrev pub invariant-loop-s : goal.invariant-loop-s
invariant-loop-s l = IsFilled l.station l.date l.part l.s
