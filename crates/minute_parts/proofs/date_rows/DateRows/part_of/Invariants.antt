use Rattle.minute_parts.specs.Filling.{IsFilled}
use Rattle.minute_parts.proofs.date_rows.DateRows.part_of.Given as goal

abbrev pub invariant-loop-s : goal.invariant-loop-s
invariant-loop-s l = IsFilled l.self.station l.date l.part l.s
