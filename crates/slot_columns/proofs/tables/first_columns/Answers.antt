-- A column more.
use Rattle.std.proofs.Common.{◌≡◌, ◌/◌, ◌%◌, ℕ, List, length, ap, arith}
use Rattle.std.proofs.lemmas.List.{length_push}
use Rattle.slot_columns.specs.declared.limits.TheConstants.{SECONDS_PER_MINUTE, SETS}
use Rattle.slot_columns.specs.Tables.{in_first}
use Rattle.slot_columns.proofs.EntryLaws.{each_more}
use Rattle.slot_columns.proofs.tables.first_columns.Goals as goal

pub loop-i-preserved : goal.loop-i-preserved
loop-i-preserved c =
    let cost = λ (i set : ℕ). in_first c.args.slots.now (i / SECONDS_PER_MINUTE) (i % SECONDS_PER_MINUTE) set in
    record {
      count = omega (arith, ap (λ (rows : List (List ℕ)). length rows) c.in_ok-push.ensures.items, length_push c.loop-i.columns.items c.column_at.result, c.loop-i.invariant.count);
      each = each_more (λ i set n. n ≡ cost i set) SETS c.loop-i.columns.items c.push.new.self.items c.column_at.result c.loop-i.i c.loop-i.invariant.count c.in_ok-push.ensures.items
          c.loop-i.invariant.each c.column_at.ensures.costs;
    }
