use Rattle.minute_parts.proofs.FieldLaws.{one_more_row}
use Rattle.minute_parts.proofs.date_rows.rows_of.Goals as goal

pub loop-k-preserved : goal.loop-k-preserved
loop-k-preserved c =
    one_more_row c.args.station c.args.field c.loop-k.rows.items _ c.differences.result c.date_part-part.result c.date_part-some.result c.with_value.result c.loop-k.k
    c.loop-k.invariant c.in_ok-push.ensures.items c.differences.ensures c.date_part-part.ensures c.with_value.ensures.value c.date_part-some.ensures
