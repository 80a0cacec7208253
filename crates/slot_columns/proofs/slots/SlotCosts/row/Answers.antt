use Rattle.std.proofs.Common.{◌<◌, ℕ, List, [], length, sym, subst, ap, ◌∙◌, arith}
use Rattle.std.proofs.lemmas.List.{get_or_default, length-map}
use Rattle.symbol_cost.specs.Grid.{Grid}
use Rattle.slot_columns.specs.Rows.{IsRow, by_symbol, grid_of}
use Rattle.slot_columns.proofs.SetLaws.{own_row}
use Rattle.slot_columns.proofs.slots.SlotCosts.row.Goals as goal

pub returns : goal.returns
returns c =
    let own = c.self.inside in
    let rows = own.rows.items in
    let count = ap (λ (g : Grid). length g.rows) c.self.view_is in
    let within : c.args.slot < length rows = omega (arith, c.requires, count, length-map rows by_symbol) in
    let row = c.index.ensures ∙ get_or_default rows c.args.slot c.index.result.now [] within in
    subst (λ (g : Grid). IsRow c.index.result.now g c.args.slot) c.self.view_is
    (subst (λ (r : List ℕ). IsRow r (grid_of own.station own.receivers rows) c.args.slot) (sym row) (own_row own.station own.receivers rows c.self.invariant c.args.slot within))
