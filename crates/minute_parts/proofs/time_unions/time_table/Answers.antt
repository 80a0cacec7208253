use Rattle.std.proofs.Common.{◌∷◌, [], arith}
use Rattle.std.proofs.Math.ListN.{length-append}
use Rattle.minute_parts.proofs.TimeLaws.{entries_more}
use Rattle.minute_parts.proofs.time_unions.time_table.Goals as goal

pub loop-n-preserved : goal.loop-n-preserved
loop-n-preserved c =
    let before = c.loop-n.invariant in
    rw c.in_ok-push.ensures.items
    (record {
      count = omega (arith, length-append c.loop-n.table.items (c.table_entry-part.result ∷ []), before.count);
      each = entries_more c.args.parts.now.times c.loop-n.table.items c.table_entry-part.result c.loop-n.n before.count before.each c.table_entry-part.ensures;
    })
