use Rattle.std.proofs.Common.{ℕ, ◌+◌, ◌*◌, arith}
use Rattle.definitions.proofs.CostLaws.{sum_below_none, sum_below_more}
use Rattle.slot_columns.specs.declared.limits.TheConstants.{SECONDS_PER_MINUTE}
use Rattle.slot_columns.specs.Tables.{at_place}
use Rattle.slot_columns.proofs.tables.later_column.Goals as goal

pub loop-m-init : goal.loop-m-init
loop-m-init c =
    let costs = λ (set m : ℕ). at_place c.args.slots.now c.args.p set (SECONDS_PER_MINUTE * (m + 1) + c.args.s) in
    record {
      sums = λ set within. omega (arith, c.no_costs-sums.ensures set, sum_below_none (costs set));
      small = λ set within. omega (arith, c.no_costs-sums.ensures set);
    }

pub loop-m-preserved : goal.loop-m-preserved
loop-m-preserved c =
    let before = c.loop-m.invariant in
    let costs = λ (set m : ℕ). at_place c.args.slots.now c.args.p set (SECONDS_PER_MINUTE * (m + 1) + c.args.s) in
    record {
      sums = λ set within.
          omega (arith, c.add.ensures set within, c.column_at-column.ensures.costs set within, before.sums set within, sum_below_more c.loop-m.m (costs set));
      small = λ set within. omega (arith, c.add.ensures set within, c.column_at-column.ensures.small set within, before.small set within);
    }
