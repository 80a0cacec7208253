use Rattle.std.proofs.Common.{◌≡◌, ℕ, ◌+◌, ◌<◌, ◌≤◌, List, sym, arith}
use Rattle.definitions.specs.heard.Costs.{sum_below}
use Rattle.definitions.proofs.CostLaws.{sum_below_none, sum_below_more}
use Rattle.slot_columns.specs.Tables.{lesser_column, lesser_cost}
use Rattle.slot_columns.proofs.SumLaws.{sum_of_fewer}
use Rattle.slot_columns.proofs.tables.sum_of_lesser.Goals as goal

-- the sum with one more second, and room for it
more : (first later : List (List ℕ)) (p : ℕ) (a b : List ℕ) (s term cost : ℕ) → s < 60 → cost ≡ sum_below s (lesser_column first later p a b)
    → term ≡ lesser_column first later p a b s
    → (cost + term ≡ sum_below (s + 1) (lesser_column first later p a b)) × (cost + term ≤ lesser_cost first later p a b)
more first later p a b s term cost within before is =
    let f = lesser_column first later p a b in
    (omega (arith, sum_below_more s f, before, is), omega (arith, sum_below_more s f, before, is, sum_of_fewer (s + 1) 60 f (omega arith)))

pub loop-s-init : goal.loop-s-init
loop-s-init c = sym (sum_below_none (lesser_column c.args.first.now c.args.later.now c.args.p c.args.one.now c.args.other.now))

pub overflow_add-cost : goal.overflow_add-cost
overflow_add-cost c =
    omega (
      arith,
      (more c.args.first.now c.args.later.now c.args.p c.args.one.now c.args.other.now c.loop-s.s c.lesser_of-cost.result c.loop-s.cost (omega arith)
          c.loop-s.invariant c.lesser_of-cost.ensures).1,
      c.requires.room,
    )

pub loop-s-preserved : goal.loop-s-preserved
loop-s-preserved c =
    (more c.args.first.now c.args.later.now c.args.p c.args.one.now c.args.other.now c.loop-s.s c.lesser_of-cost.result c.loop-s.cost (omega arith)
    c.loop-s.invariant c.lesser_of-cost.ensures).0
