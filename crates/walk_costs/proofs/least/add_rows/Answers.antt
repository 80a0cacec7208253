use Rattle.std.proofs.Common.{◌<◌, [], length, arith}
use Rattle.std.proofs.lemmas.List.{get_or_default}
use Rattle.slot_columns.proofs.GroupLaws.{added_more}
use Rattle.walk_costs.specs.Leasts.{IsRowAt}
use Rattle.walk_costs.proofs.least.add_rows.Goals as goal

pub loop-h-preserved : goal.loop-h-preserved
loop-h-preserved c =
    let rows = c.args.rows.now in
    let within : c.loop-h.h < length c.args.rows.now = omega arith in
    record {
      added = added_more [] (IsRowAt rows) c.args.given.now.items c.loop-h.given.items _ _ c.loop-h.h c.loop-h.invariant.added c.in_ok-push.ensures.items
          (get_or_default rows c.loop-h.h _ [] within);
    }
