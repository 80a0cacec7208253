-- A row more.
use Rattle.std.proofs.Common.{[]}
use Rattle.slot_columns.specs.Layered.{IsTermRow}
use Rattle.slot_columns.proofs.GroupLaws.{added_more}
use Rattle.slot_columns.proofs.layered.push_rows.Goals as goal

pub loop-j-preserved : goal.loop-j-preserved
loop-j-preserved c = record {
  added = added_more [] (IsTermRow c.args.first.now c.args.later.now c.args.terms.now c.args.p) c.args.rows.now.items c.loop-j.rows.items c.push.new.self.items c.row_of.result c.loop-j.j
      c.loop-j.invariant.added c.in_ok-push.ensures.items c.row_of.ensures;
}
