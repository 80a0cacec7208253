use Rattle.std.proofs.Common.{[], length}
use Rattle.slot_columns.specs.Layered.{IsTermRow}
use Rattle.slot_columns.proofs.GroupLaws.{groups_more}
use Rattle.slot_columns.proofs.layered.rows_of.Goals as goal

pub loop-p-preserved : goal.loop-p-preserved
loop-p-preserved c =
    let terms = c.args.terms.now in
    record {
      rows = groups_more [] (IsTermRow c.args.first.now c.args.later.now terms) (length terms) c.loop-p.rows.items c.push_rows.new.rows.items c.loop-p.p
          c.loop-p.invariant.rows c.in_ok-push_rows.ensures;
    }
