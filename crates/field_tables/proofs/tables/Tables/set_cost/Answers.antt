use Rattle.std.proofs.Common.{◌≡◌, ℕ, true, List, length, Option, Some, ap, ◌∙◌, sym, subst, arith}
use Rattle.std.specs.Option.{option_map_or}
use Rattle.signal_base.specs.declared.station.Station.{Station}
use Rattle.signal_base.specs.declared.window.Window.{Window}
use Rattle.definitions.specs.codes.Allowed.{has_station}
use Rattle.definitions.specs.heard.Costs.{set_cost}
use Rattle.symbol_cost.specs.Grid.{Grid, cost_at}
use Rattle.field_tables.specs.Grids.{AreGrids, grid_costs, grid_of}
use Rattle.field_tables.specs.Scored.{Scored, costs_of}
use Rattle.plain_costs.proofs.GridLaws.{found}
use Rattle.field_tables.proofs.tables.Tables.set_cost.Goals as goal

-- the grid that was found is that of the station, with the window's slots
its_grid : (window : Window) (grids : List Grid) (station : Station) (g : Grid) → AreGrids window grids → has_station window.stations station ≡ true
    → grid_of grids station ≡ Some g → (g.station ≡ station) × (length g.rows ≡ window.seconds)
its_grid window grids station g are heard is =
    let own = found window grids are station heard in
    let same : own.0 ≡ g = let both = sym own.1 ∙ is in cc in
    (ap (λ (h : Grid). h.station) (sym same) ∙ own.2, ap (λ (h : Grid). length h.rows) (sym same) ∙ own.3)

-- costs by the grid of a station
by_grid : (grids : List Grid) (station : Station) (g : Grid) (slot set cost : ℕ) → grid_of grids station ≡ Some g → g.station ≡ station
    → cost ≡ set_cost g.station (cost_at g.rows slot) set → cost ≡ set_cost station (grid_costs grids station slot) set
by_grid grids station g slot set cost is same price =
    price ∙ ap (λ (s : Station). set_cost s (cost_at g.rows slot) set) same
    ∙ ap (λ (o : Option Grid). set_cost station (option_map_or (λ (h : Grid). cost_at h.rows) o (λ k x. 0) slot) set) (sym is)

pub cost-requires : goal.cost-requires
cost-requires c =
    let window_is = ap (λ (s : Scored). s.window) c.self.view_is in
    let heard = subst (λ (w : Window). has_station w.stations c.args.station ≡ true) (sym window_is) c.requires.station in
    let slots = (its_grid c.self.inside.window c.self.inside.grids.now c.args.station c.in-Some.grid.now c.self.invariant.0.are_grids heard c.in-Some.ensures).1 in
    let seconds = ap (λ (w : Window). w.seconds) window_is in
    omega (arith, slots, seconds, c.requires.slot)

pub unreachable-requires : goal.unreachable-requires
unreachable-requires c =
    let window_is = ap (λ (s : Scored). s.window) c.self.view_is in
    let heard = subst (λ (w : Window). has_station w.stations c.args.station ≡ true) (sym window_is) c.requires.station in
    let own = found c.self.inside.window c.self.inside.grids.now c.self.invariant.0.are_grids c.args.station heard in
    let both = sym own.1 ∙ c.in-None.ensures in
    cc

pub returns : goal.returns
returns c =
    let window_is = ap (λ (s : Scored). s.window) c.self.view_is in
    let heard = subst (λ (w : Window). has_station w.stations c.args.station ≡ true) (sym window_is) c.requires.station in
    let same = (its_grid c.self.inside.window c.self.inside.grids.now c.args.station c.in-Some.grid.now c.self.invariant.0.are_grids heard c.in-Some.ensures).0 in
    by_grid c.self.inside.grids.now c.args.station c.in-Some.grid.now c.args.slot c.args.set c.cost.result c.in-Some.ensures same c.cost.ensures.cost
    ∙ ap (λ (s : Scored). set_cost c.args.station (costs_of s c.args.station c.args.slot) c.args.set) c.self.view_is
