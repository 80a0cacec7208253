use Rattle.std.proofs.Common.{arith}
use Rattle.definitions.proofs.CostLaws.{sum_below_none, sum_below_more}
use Rattle.slot_columns.specs.Days.{day_cost}
use Rattle.slot_columns.proofs.walks.walk_row.Goals as goal

pub loop-k-init : goal.loop-k-init
loop-k-init c = record {
  minute = omega (arith, c.no_sums-sums.ensures.minute);
  sums = λ u within. omega (arith, c.no_sums-sums.ensures.costs u, sum_below_none (day_cost c.args.slots.now c.args.day.now c.args.p u));
  bound = λ u within. omega (arith, c.no_sums-sums.ensures.costs u);
}

pub loop-k-preserved : goal.loop-k-preserved
loop-k-preserved c =
    let k = c.loop-k.k in
    let before = c.loop-k.invariant in
    let cost = day_cost c.args.slots.now c.args.day.now c.args.p in
    record {
      minute = c.add_slot.ensures.minute;
      sums = λ u within. omega (arith, before.sums u within, c.add_slot.ensures.sum u within, sum_below_more k (cost u));
      bound = λ u within. omega (arith, before.bound u within, c.add_slot.ensures.small u within);
    }
