use Rattle.std.proofs.Common.{◌≡◌, ℕ, ◌+◌, ◌*◌, ◌<◌, ◌≤◌, List, get_or, sym, ap, arith}
use Rattle.definitions.specs.heard.Costs.{sum_below}
use Rattle.definitions.proofs.CostLaws.{sum_below_none, sum_below_more}
use Rattle.slot_columns.specs.Parts.{entry}
use Rattle.slot_columns.specs.Rows.{index_of}
use Rattle.slot_columns.specs.Tables.{column_cost, columns_cost}
use Rattle.slot_columns.proofs.SumLaws.{sum_of_fewer}
use Rattle.slot_columns.proofs.tables.sum_of_columns.Goals as goal

-- the sum with one more second, and room for it
more : (first later : List (List ℕ)) (p : ℕ) (a b : List ℕ) (s i j cost : ℕ) → s < 60 → cost ≡ sum_below s (column_cost first later p a b)
    → i ≡ index_of (get_or a s 0) → j ≡ index_of (get_or b s 0)
    → (cost + (entry first (60 * p + s) i + entry later (60 * p + s) j) ≡ sum_below (s + 1) (column_cost first later p a b))
    × (cost + (entry first (60 * p + s) i + entry later (60 * p + s) j) ≤ columns_cost first later p a b)
more first later p a b s i j cost within before in_first in_later =
    let f = column_cost first later p a b in
    let one = ap (entry first (60 * p + s)) in_first in
    let two = ap (entry later (60 * p + s)) in_later in (
      omega (arith, sum_below_more s f, one, two),
      omega (arith, sum_below_more s f, one, two, sum_of_fewer (s + 1) 60 f (omega arith)),
    )

pub loop-s-init : goal.loop-s-init
loop-s-init c = sym (sum_below_none (column_cost c.args.first.now c.args.later.now c.args.p c.args.in_first.now c.args.in_later.now))

pub overflow_add-cost-in-loop-s-2 : goal.overflow_add-cost-in-loop-s-2
overflow_add-cost-in-loop-s-2 c =
    omega (
      arith,
      (more c.args.first.now c.args.later.now c.args.p c.args.in_first.now c.args.in_later.now c.loop-s.s c.index_of.result c.index_of-in-loop-s.result
          c.loop-s.cost (omega arith) c.loop-s.invariant c.index_of.ensures.index c.index_of-in-loop-s.ensures.index).1,
    )

pub overflow_add-cost-in-loop-s-3 : goal.overflow_add-cost-in-loop-s-3
overflow_add-cost-in-loop-s-3 c =
    omega (
      arith,
      (more c.args.first.now c.args.later.now c.args.p c.args.in_first.now c.args.in_later.now c.loop-s.s c.index_of.result c.index_of-in-loop-s.result
          c.loop-s.cost (omega arith) c.loop-s.invariant c.index_of.ensures.index c.index_of-in-loop-s.ensures.index).1,
    )

pub loop-s-preserved : goal.loop-s-preserved
loop-s-preserved c =
    (more c.args.first.now c.args.later.now c.args.p c.args.in_first.now c.args.in_later.now c.loop-s.s c.index_of.result c.index_of-in-loop-s.result
    c.loop-s.cost (omega arith) c.loop-s.invariant c.index_of.ensures.index c.index_of-in-loop-s.ensures.index).0
