use Rattle.std.proofs.Common.{◌≡◌, ◌*◌, ◌<◌, ◌≤◌, [], List, ℕ, length, get_or, sym, subst, ap, ◌∙◌, arith}
use Rattle.std.proofs.lemmas.List.{get_or_default}
use Rattle.symbol_cost.specs.Grid.{Grid}
use Rattle.symbol_cost.specs.declared.limits.TheConstants.{RECEIVER_COST}
use Rattle.symbol_cost.proofs.grid.CostGrid.cost.Goals as goal

pub cheapest-requires : goal.cheapest-requires
cheapest-requires c x =
    let rows = c.self.inside.rows.items in
    let same : length rows ≡ length c.args.self.now.rows = ap (λ (g : Grid). length g.rows) c.self.view_is in
    let within : c.args.slot < length rows = omega (arith, c.requires.slot) in
    let row_is = c.index.ensures ∙ get_or_default rows c.args.slot c.index.result.now [] within in
    subst (λ (r : List ℕ). get_or r x 0 ≤ c.self.inside.receivers * RECEIVER_COST) (sym row_is) (c.self.invariant.small c.args.slot x)
