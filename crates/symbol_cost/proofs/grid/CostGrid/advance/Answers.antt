-- The rows are those of the later window.
use Rattle.std.proofs.Common.{◌≡◌, ◌+◌, ◌*◌, ℕ, List, length, sym, ap, ◌∙◌, subst}
use Rattle.std.specs.Vec.{with_items}
use Rattle.std.proofs.lemmas.List.{with_items_is}
use Rattle.definitions.specs.heard.Costs.{slot_cost}
use Rattle.definitions.specs.heard.Receivers.{receptions}
use Rattle.symbol_cost.specs.Grid.{Grid, HasCosts}
use Rattle.symbol_cost.proofs.GridLaws.{grid_of, later_grid}
use Rattle.symbol_cost.proofs.grid.CostGrid.advance.Goals as goal

pub returns-clause-costs : goal.returns-clause-costs
returns-clause-costs c = λ station n have.
    let inside = c.self.inside in
    let table = c.args.table.now in
    let rs = receptions c.args.tunings.now c.args.logs.now in
    let start = c.args.start in
    let phase = c.args.phase in
    let by = c.args.by in
    let rows = c.move_on.new.rows in
    let written : (with_items inside.rows rows).items ≡ rows = with_items_is inside.rows rows (c.move_on.ensures.slots ∙ c.as_mut_slice-rows.ensures.len) in
    let receivers : inside.receivers ≡ length c.args.tunings.now = ap (λ (g : Grid). g.receivers) c.self.view_is ∙ c.requires.receivers in
    let before : HasCosts (grid_of inside.station inside.receivers inside.rows.items) station n (slot_cost table rs station (start + phase)) =
    subst (λ (g : Grid). HasCosts g station n (slot_cost table rs station (start + phase))) (sym c.self.view_is) have in
    subst (λ (r : List (List ℕ)). HasCosts (grid_of inside.station inside.receivers r) station n (slot_cost table rs station (start + 1000 * by + phase))) (sym written)
    (later_grid table rs inside.station inside.receivers (length c.args.tunings.now) inside.rows.items rows start phase by receivers c.self.invariant.small
    (λ m are. c.move_on.ensures.costs m (rw c.as_mut_slice-rows.ensures.value are)) station n before)
