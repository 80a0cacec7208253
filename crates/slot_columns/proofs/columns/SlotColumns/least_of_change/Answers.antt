use Rattle.std.proofs.Common.{◌≡◌, ℕ, ◌+◌, ◌/◌, ◌≤◌, length, get_or, subst, sym, ap, ◌∙◌, arith}
use Rattle.definitions.specs.heard.Costs.{sum_below}
use Rattle.definitions.proofs.CostLaws.{sum_below_more, sum_below_none}
use Rattle.symbol_cost.specs.Grid.{Grid}
use Rattle.slot_columns.specs.Rows.{IsBounded}
use Rattle.slot_columns.specs.Tables.{lesser_of_change}
use Rattle.slot_columns.proofs.ChangeLaws.{least_of_change, lesser_second, sum_fits}
use Rattle.slot_columns.proofs.columns.SlotColumns.least_of_change.Goals as goal

pub loop-s-init : goal.loop-s-init
loop-s-init c = λ b some within.
    c.alike-costs.ensures b (omega (arith, within, c.seconds.ensures.bound, c.requires))
    ∙ sym (sum_below_none (lesser_second c.args.self.now c.args.p c.args.one.now c.args.other.now b))

pub add_lesser-requires-clause-room : goal.add_lesser-requires-clause-room
add_lesser-requires-clause-room c = λ b some within.
    omega (
      arith,
      c.loop-s.invariant b some within,
      sum_fits c.args.self.now c.args.p (subst IsBounded c.self.view_is c.self.invariant.bounded) c.requires c.args.one.now c.args.other.now b c.loop-s.s
          (omega (arith, within, c.seconds.ensures.bound, c.requires)) (omega arith),
    )

pub loop-s-preserved : goal.loop-s-preserved
loop-s-preserved c = λ b some within.
    omega (
      arith,
      c.loop-s.invariant b some within,
      c.add_lesser.ensures b some within,
      sum_below_more c.loop-s.s (lesser_second c.args.self.now c.args.p c.args.one.now c.args.other.now b),
    )

pub returns : goal.returns
returns c =
    let grid = c.args.self.now in
    let p = c.args.p in
    let one = c.args.one.now in
    let other = c.args.other.now in
    let minutes : ℕ = (p + c.seconds.result) / 60 in
    let all : c.loop-s.s ≡ 60 = omega arith in
    let sums : (b : ℕ) → 1 ≤ b → b ≤ minutes → get_or c.loop-s.costs b 0 ≡ lesser_of_change grid p one other b = λ b some within.
    c.loop-s.invariant b some within ∙ ap (λ s. sum_below s (lesser_second grid p one other b)) all in
    least_of_change grid p (subst IsBounded c.self.view_is c.self.invariant.bounded) c.requires one other minutes c.least_of_first.result
    (ap (λ n. (p + n) / 60) (c.seconds.ensures.count ∙ ap (λ (g : Grid). length g.rows) c.self.view_is))
    (λ b some within. omega (arith, c.least_of_first.ensures.least b some within, sums b some within))
    (λ full.
    let is = c.least_of_first.ensures.found full in
    (is.0, is.1, is.2, is.3 ∙ sums is.0 is.1 is.2))
