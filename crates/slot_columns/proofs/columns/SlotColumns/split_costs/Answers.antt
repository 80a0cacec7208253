use Rattle.std.proofs.Common.{◌≡◌, length, get_or, subst, sym, ap, ◌∙◌, arith}
use Rattle.symbol_cost.specs.Grid.{Grid, cost_at}
use Rattle.slot_columns.specs.Parts.{layered_cost, split_cost}
use Rattle.slot_columns.proofs.SplitLaws.{IsChanged, all_changed, counted, none_before, none_changed, one_changed, room}
use Rattle.slot_columns.proofs.columns.SlotColumns.split_costs.Goals as goal

pub loop-s-init : goal.loop-s-init
loop-s-init c = λ b few.
    let grid = c.self.inside.slots in
    let p = c.args.p in
    let before = c.args.before.now in
    let after = c.args.after.now in
    let own = ap (λ (g : Grid). layered_cost g.station (cost_at g.rows) (length g.rows) p after after) (sym c.self.view_is) in
    subst (IsChanged grid p before after b 0) (sym (c.alike-costs.ensures b few ∙ c.part_cost.ensures.cost ∙ own ∙ none_before grid p before after))
    (none_changed grid p before after c.self.invariant.bounded c.requires b)

pub change_second-requires-clause-counted : goal.change_second-requires-clause-counted
change_second-requires-clause-counted c = λ b few.
    counted c.self.inside.slots c.args.p c.args.before.now c.args.after.now c.self.invariant.bounded c.requires b c.loop-s.s (get_or c.loop-s.costs b 0) few
    (omega arith) (c.loop-s.invariant b few)

pub change_second-requires-clause-room : goal.change_second-requires-clause-room
change_second-requires-clause-room c = λ b few.
    omega (
      arith,
      room c.self.inside.slots c.args.p c.args.before.now c.args.after.now c.self.invariant.bounded c.requires b c.loop-s.s (get_or c.loop-s.costs b 0) few
          (omega arith) (c.loop-s.invariant b few),
    )

pub loop-s-preserved : goal.loop-s-preserved
loop-s-preserved c = λ b few.
    one_changed c.self.inside.slots c.args.p c.args.before.now c.args.after.now c.self.invariant.bounded c.requires b c.loop-s.s (get_or c.loop-s.costs b 0) few
    (omega arith) (c.loop-s.invariant b few) (get_or c.change_second.new.costs b 0) (c.change_second.ensures b few)

pub returns : goal.returns
returns c = λ b few.
    let grid = c.self.inside.slots in
    let p = c.args.p in
    let before = c.args.before.now in
    let after = c.args.after.now in
    let all : c.loop-s.s ≡ 60 = omega arith in
    all_changed grid p before after c.self.invariant.bounded c.requires b (get_or c.loop-s.costs b 0)
    (subst (λ s. IsChanged grid p before after b s (get_or c.loop-s.costs b 0)) all (c.loop-s.invariant b few))
    ∙ ap (λ (g : Grid). split_cost g.station (cost_at g.rows) (length g.rows) p b before after) c.self.view_is
