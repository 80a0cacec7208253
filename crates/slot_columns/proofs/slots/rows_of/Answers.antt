-- A row more.
use Rattle.std.proofs.Common.{◌≡◌, ◌+◌, ◌*◌, ◌≤◌, ℕ, List, length, ap, arith}
use Rattle.std.proofs.lemmas.List.{length_push}
use Rattle.symbol_cost.specs.declared.limits.TheConstants.{RECEIVER_COST}
use Rattle.slot_columns.specs.declared.limits.TheConstants.{SETS}
use Rattle.slot_columns.specs.Rows.{cost_in_slot}
use Rattle.slot_columns.proofs.EntryLaws.{each_more}
use Rattle.slot_columns.proofs.slots.rows_of.Goals as goal

pub loop-slot-preserved : goal.loop-slot-preserved
loop-slot-preserved c =
    let grid = c.args.grid.now in
    let slot = c.loop-slot.slot in
    let before = c.loop-slot.invariant in
    let is = c.in_ok-push.ensures.items in
    let long : length c.push.new.self.items ≡ slot + 1 =
    omega (arith, ap (λ (rows : List (List ℕ)). length rows) is, length_push c.loop-slot.rows.items c.row_of-row.result, before.count) in
    record {
      count = long;
      costs = λ k set lt within.
          each_more (λ k set n. n ≡ cost_in_slot grid set k) SETS c.loop-slot.rows.items c.push.new.self.items c.row_of-row.result slot before.count is
          (λ i x early. before.costs i x (omega (arith, early, before.count))) c.row_of-row.ensures.costs k set (omega (arith, lt, long)) within;
      small = λ k set lt within.
          each_more (λ k set n. n ≤ grid.receivers * RECEIVER_COST) SETS c.loop-slot.rows.items c.push.new.self.items c.row_of-row.result slot before.count is
          (λ i x early. before.small i x (omega (arith, early, before.count))) c.row_of-row.ensures.small k set (omega (arith, lt, long)) within;
    }
