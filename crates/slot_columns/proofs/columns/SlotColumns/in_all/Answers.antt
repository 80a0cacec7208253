use Rattle.std.proofs.Common.{◌≡◌, ◌+◌, ◌*◌, ◌<◌, ℕ, List, [], length, get_or, ap, ◌∙◌, arith}
use Rattle.std.proofs.lemmas.List.{get_or_default}
use Rattle.symbol_cost.specs.Grid.{Grid}
use Rattle.slot_columns.specs.Parts.{entry}
use Rattle.slot_columns.specs.Rows.{index_of}
use Rattle.slot_columns.specs.Tables.{in_all}
use Rattle.slot_columns.proofs.ChangeLaws.{in_tables}
use Rattle.slot_columns.proofs.LayerLaws.{room}
use Rattle.slot_columns.proofs.SetLaws.{index_bound}
use Rattle.slot_columns.proofs.columns.SlotColumns.in_all.Goals as goal

-- an entry of a column, as it was read
read : (columns : List (List ℕ)) (row : List ℕ) (i at set : ℕ) → i < length columns → row ≡ get_or columns i row → at ≡ index_of set
    → get_or row at 0 ≡ entry columns i (index_of set)
read columns row i at set within row_is at_is =
    ap (λ (r : List ℕ). get_or r at 0) (row_is ∙ get_or_default columns i row [] within) ∙ ap (entry columns i) at_is

pub overflow_add-result : goal.overflow_add-result
overflow_add-result c =
    let own = c.self.inside in
    let i : ℕ = 60 * c.args.p + c.args.s in
    let tables = c.self.invariant in
    omega (
      arith,
      read own.first.items c.index.result.now i c.index_of.result c.args.set (omega (arith, tables.in_first.count)) c.index.ensures c.index_of.ensures.index,
      read own.later.items c.index-2.result.now i c.index_of-2.result c.args.set (omega (arith, tables.in_later.count)) c.index-2.ensures c.index_of-2.ensures.index,
      room own.slots own.first.items own.later.items tables i (index_of c.args.set) (omega arith) (index_bound c.args.set),
    )

pub returns : goal.returns
returns c =
    let own = c.self.inside in
    let p = c.args.p in
    let s = c.args.s in
    let i : ℕ = 60 * p + s in
    let tables = c.self.invariant in
    omega (
      arith,
      read own.first.items c.index.result.now i c.index_of.result c.args.set (omega (arith, tables.in_first.count)) c.index.ensures c.index_of.ensures.index,
      read own.later.items c.index-2.result.now i c.index_of-2.result c.args.set (omega (arith, tables.in_later.count)) c.index-2.ensures c.index_of-2.ensures.index,
      in_tables own.slots own.first.items own.later.items tables p s c.args.set c.requires.first c.requires.second,
      ap (λ (g : Grid). in_all g p s c.args.set) c.self.view_is,
    )
