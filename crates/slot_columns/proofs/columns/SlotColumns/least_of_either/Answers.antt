use Rattle.std.proofs.Common.{List, ℕ, subst, sym, ◌∙◌, arith}
use Rattle.symbol_cost.specs.Grid.{Grid}
use Rattle.slot_columns.specs.Parts.{IsLeastOfEither}
use Rattle.slot_columns.specs.Tables.{AreTables}
use Rattle.slot_columns.proofs.ColumnLaws.{most_fits}
use Rattle.slot_columns.proofs.LayerLaws.{room}
use Rattle.slot_columns.proofs.LesserLaws.{least_of_either, lesser_bound, passed_lesser}
use Rattle.slot_columns.proofs.columns.SlotColumns.least_of_either.Goals as goal

pub sum_of_lesser-requires-clause-rows : goal.sum_of_lesser-requires-clause-rows
sum_of_lesser-requires-clause-rows c =
    let own = c.self.inside in
    let tables = subst (λ (g : Grid). AreTables g own.first.items own.later.items) c.self.view_is c.self.invariant in
    room c.args.self.now c.deref.result.now c.deref-2.result.now
    (subst (λ (t : List (List ℕ)). AreTables c.args.self.now t c.deref-2.result.now) (sym c.deref.ensures.value)
    (subst (λ (t : List (List ℕ)). AreTables c.args.self.now own.first.items t) (sym c.deref-2.ensures.value) tables))

pub sum_of_lesser-requires-clause-room : goal.sum_of_lesser-requires-clause-room
sum_of_lesser-requires-clause-room c =
    let own = c.self.inside in
    let grid = c.args.self.now in
    let tables = subst (λ (g : Grid). AreTables g own.first.items own.later.items) c.self.view_is c.self.invariant in
    omega (
      arith,
      passed_lesser own.first.items c.deref.result.now own.later.items c.deref-2.result.now c.args.p c.args.one.now c.args.other.now
          c.deref.ensures.value c.deref-2.ensures.value,
      lesser_bound grid own.first.items own.later.items tables c.args.p c.requires c.args.one.now c.args.other.now,
      most_fits grid tables.bounded,
    )

pub returns-clause-least : goal.returns-clause-least
returns-clause-least c =
    let own = c.self.inside in
    let grid = c.args.self.now in
    let tables = subst (λ (g : Grid). AreTables g own.first.items own.later.items) c.self.view_is c.self.invariant in
    subst (IsLeastOfEither grid c.args.p c.args.one.now c.args.other.now)
    (sym
    (c.sum_of_lesser.ensures
    ∙ passed_lesser own.first.items c.deref.result.now own.later.items c.deref-2.result.now c.args.p c.args.one.now c.args.other.now
    c.deref.ensures.value c.deref-2.ensures.value))
    (least_of_either grid own.first.items own.later.items tables c.args.p c.requires c.args.one.now c.args.other.now)

pub returns-clause-bound : goal.returns-clause-bound
returns-clause-bound c =
    let own = c.self.inside in
    let tables = subst (λ (g : Grid). AreTables g own.first.items own.later.items) c.self.view_is c.self.invariant in
    omega (
      arith,
      c.sum_of_lesser.ensures,
      passed_lesser own.first.items c.deref.result.now own.later.items c.deref-2.result.now c.args.p c.args.one.now c.args.other.now
          c.deref.ensures.value c.deref-2.ensures.value,
      lesser_bound c.args.self.now own.first.items own.later.items tables c.args.p c.requires c.args.one.now c.args.other.now,
    )
