use Rattle.std.proofs.Common.{subst, ◌∙◌, arith}
use Rattle.symbol_cost.specs.Grid.{Grid}
use Rattle.slot_columns.specs.Tables.{AreTables}
use Rattle.slot_columns.proofs.ColumnLaws.{layered, layered_bound, most_fits, same_columns}
use Rattle.slot_columns.proofs.columns.SlotColumns.layered_cost.Goals as goal

pub sum_of_columns-requires-clause-room : goal.sum_of_columns-requires-clause-room
sum_of_columns-requires-clause-room c =
    let own = c.self.inside in
    let grid = c.args.self.now in
    let tables = subst (λ (g : Grid). AreTables g own.first.items own.later.items) c.self.view_is c.self.invariant in
    omega (
      arith,
      same_columns own.first.items c.deref.result.now own.later.items c.deref-2.result.now c.args.p c.args.first.now c.args.rest.now
          c.deref.ensures.value c.deref-2.ensures.value,
      layered_bound grid own.first.items own.later.items tables c.args.p c.requires c.args.first.now c.args.rest.now,
      most_fits grid tables.bounded,
    )

pub returns-clause-cost : goal.returns-clause-cost
returns-clause-cost c =
    let own = c.self.inside in
    let tables = subst (λ (g : Grid). AreTables g own.first.items own.later.items) c.self.view_is c.self.invariant in
    c.sum_of_columns.ensures
    ∙ same_columns own.first.items c.deref.result.now own.later.items c.deref-2.result.now c.args.p c.args.first.now c.args.rest.now
    c.deref.ensures.value c.deref-2.ensures.value
    ∙ layered c.args.self.now own.first.items own.later.items tables c.args.p c.requires c.args.first.now c.args.rest.now

pub returns-clause-bound : goal.returns-clause-bound
returns-clause-bound c =
    let own = c.self.inside in
    let tables = subst (λ (g : Grid). AreTables g own.first.items own.later.items) c.self.view_is c.self.invariant in
    omega (
      arith,
      c.sum_of_columns.ensures,
      same_columns own.first.items c.deref.result.now own.later.items c.deref-2.result.now c.args.p c.args.first.now c.args.rest.now
          c.deref.ensures.value c.deref-2.ensures.value,
      layered_bound c.args.self.now own.first.items own.later.items tables c.args.p c.requires c.args.first.now c.args.rest.now,
    )
