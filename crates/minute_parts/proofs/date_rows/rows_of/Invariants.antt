use Rattle.minute_parts.specs.DateRows.{AreRows}
use Rattle.minute_parts.proofs.date_rows.rows_of.Given as goal

abbrev pub invariant-loop-k : goal.invariant-loop-k
invariant-loop-k l = AreRows l.station l.field l.rows.items l.k
