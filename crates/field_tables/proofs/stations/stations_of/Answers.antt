use Rattle.std.proofs.Common.{◌≡◌, ◌+◌, suc, List, [], ◌∷◌, ◌++◌, length, get_or, take, take-suc, sym, ap, ◌∙◌, subst, arith}
use Rattle.std.proofs.lemmas.List.{length-take}
use Rattle.symbol_cost.specs.Grid.{Grid}
use Rattle.leap_unions.specs.Scope.{Scope}
use Rattle.walk_costs.specs.Walks.{PricedParts}
use Rattle.field_tables.specs.Scopes.{scope_of}
use Rattle.field_tables.specs.Sums.{AreOf}
use Rattle.field_tables.proofs.ScopeLaws.{as_many_scopes, few_grids, scope_at}
use Rattle.field_tables.proofs.StationLaws.{as_many, one_more}
use Rattle.field_tables.proofs.stations.stations_of.Goals as goal
use Rattle.field_tables.proofs.stations.stations_of.Goals.{After-index-parts-len, After-len}

-- as many stations stand there as grids came before
place : (c : After-len) → c.len.result ≡ c.loop-grid.grid-index
place c =
    let gs = c.args.grids.now in
    let i = c.loop-grid.grid-index in
    let many = as_many (take i gs) c.loop-grid.stations.items c.loop-grid.invariant in
    omega (arith, c.len.ensures, c.loop-grid.stations.ok.0, many, length-take i gs, c.loop-grid-test.true)

pub offset_bounds-parts-len : goal.offset_bounds-parts-len
offset_bounds-parts-len c =
    let at = place (goal.at.offset_bounds-parts-len c).After-len in
    omega (arith, at, c.loop-grid-test.true, few_grids c.args._window.now c.args.grids.now c.requires.grids)

pub bounds-parts-len : goal.bounds-parts-len
bounds-parts-len c =
    let at = place (goal.at.bounds-parts-len c).After-len in
    let long = ap (λ (xs : List Scope). length xs) c.requires.parts in
    omega (arith, at, c.loop-grid-test.true, long, as_many_scopes c.args._window.now c.args.grids.now c.requires.grids)

-- the parts of this place are those of the grid
scope : (c : After-index-parts-len) → c.len.result ≡ c.loop-grid.grid-index
    → c.index-parts-len.result ≡ scope_of (length c.grid-item.result.rows) c.grid-item.result.station
scope c at =
    let i = c.loop-grid.grid-index in
    let x = c.index-parts-len.result in
    c.index-parts-len.is ∙ ap (λ n. get_or c.args.parts.now n x) at ∙ ap (λ (xs : List Scope). get_or xs i x) c.requires.parts
    ∙ scope_at c.args._window.now c.args.grids.now c.requires.grids i c.grid-item.result x c.loop-grid-test.true
    ∙ ap (λ (g : Grid). scope_of (length g.rows) g.station) (sym c.grid-item.is)

pub make-requires-clause-station : goal.make-requires-clause-station
make-requires-clause-station c =
    let known = goal.at.make-requires-clause-station c in
    ap (λ (s : Scope). s.station) (scope known.After-index-parts-len (place known.After-len))

pub make-requires-clause-seconds : goal.make-requires-clause-seconds
make-requires-clause-seconds c =
    let known = goal.at.make-requires-clause-seconds c in
    ap (λ (s : Scope). s.seconds) (scope known.After-index-parts-len (place known.After-len))

pub loop-grid-preserved : goal.loop-grid-preserved
loop-grid-preserved c =
    let gs = c.args.grids.now in
    let i = c.loop-grid.grid-index in
    let g = c.grid-item.result in
    let w = c.in_ok-station.station in
    let ws = c.loop-grid.stations.items in
    let one : i + 1 ≡ suc i = omega arith in
    let more : take (i + 1) gs ≡ take i gs ++ g ∷ [] =
    ap (λ n. take n gs) one ∙ take-suc gs i g c.loop-grid-test.true ∙ ap (λ (h : Grid). take i gs ++ h ∷ []) (sym c.grid-item.is) in
    subst (λ (vs : List PricedParts). AreOf (take (i + 1) gs) vs) (sym c.in_ok-add.ensures)
    (subst (λ (hs : List Grid). AreOf hs (ws ++ w ∷ [])) (sym more) (one_more (take i gs) ws g w c.loop-grid.invariant c.in_ok-station.ensures))
