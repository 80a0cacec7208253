-- The grid of a station of a window, and what costs by it.
use Rattle.std.proofs.Common.{◌≡◌, ℕ, suc, ◌<◌, ◌==◌, Bool, true, false, if◌then◌else◌, List, [], ◌∷◌, find, length, get_or, Option, Some, None, arith, sym, ◌∙◌, subst}
use Rattle.signal_base.specs.declared.station.Station.{Station}
use Rattle.signal_base.specs.declared.window.Window.{Window}
use Rattle.signal_base.specs.Number.{number_of}
use Rattle.definitions.specs.codes.Allowed.{has_station}
use Rattle.definitions.specs.heard.Costs.{Costs}
use Rattle.symbol_cost.specs.Grid.{Grid, HasCosts}
use Rattle.plain_costs.specs.Grids.{AreGrids, HaveCosts, grid_of}
use Rattle.plain_costs.proofs.GridLaws.{found, heard_at, own_grid, place}

some_same : (g h : Grid) → Some g ≡ Some h → g ≡ h
some_same g h e = cc

-- the grid that is found is the station's, and has its costs
pub record IsItsGrid (window : Window) (costs : Costs) (station : Station) (g : Grid) : Type 0 where
  pub of_station : g.station ≡ station
  pub has : HasCosts g station window.seconds (costs station)

pub its_grid : (window : Window) (grids : List Grid) (costs : Costs) (station : Station) (g : Grid) → AreGrids window grids → HaveCosts window grids costs
    → has_station window.stations station ≡ true → grid_of grids station ≡ Some g → IsItsGrid window costs station g
its_grid window grids costs station g are have heard is =
    let at = place window grids are station heard in
    let h = get_or grids at.0 g in
    let of_station : h.station ≡ station = at.2 g in
    let found : grid_of grids station ≡ Some h = subst (λ (s : Station). grid_of grids s ≡ Some h) of_station (own_grid window grids are at.0 g at.1) in
    let same : h ≡ g = some_same h g (sym found ∙ is) in
    subst (IsItsGrid window costs station) same
    (record { of_station = of_station; has = subst (λ (s : Station). HasCosts h s window.seconds (costs s)) of_station (have at.0 g at.1) })

-- a grid that is found is of a station of the window
found_at : {X : Type 0} (p : X → Bool) (xs : List X) (x d : X) → find p xs ≡ Some x → (k : ℕ) × (k < length xs) × (get_or xs k d ≡ x)
found_at p [] x d e = absurd cc
found_at p (y ∷ xs) x d e = by_test (p y) (found_at p xs x d) e
  where
    by_test : (b : Bool) → (find p xs ≡ Some x → (k : ℕ) × (k < length xs) × (get_or xs k d ≡ x)) → (if b then Some y else find p xs) ≡ Some x
        → (k : ℕ) × (k < suc (length xs)) × (get_or (y ∷ xs) k d ≡ x)
    by_test true behind f = (0, omega arith, let same : y ≡ x = cc in same)
    by_test false behind f = let rest = behind f in (suc rest.0, omega (arith, rest.1), rest.2)

pub record IsOfWindow (window : Window) (g : Grid) : Type 0 where
  pub heard : has_station window.stations g.station ≡ true
  pub slots : length g.rows ≡ window.seconds

pub found_of_window : (window : Window) (grids : List Grid) (station : Station) (g : Grid) → AreGrids window grids → grid_of grids station ≡ Some g → IsOfWindow window g
found_of_window window grids station g are is =
    let at = found_at (λ (h : Grid). number_of h.station == number_of station) grids g g is in
    subst (IsOfWindow window) at.2 (record { heard = heard_at window grids are at.0 g at.1; slots = are.slots at.0 g at.1 })

-- a station of the window has a grid
pub not_missing : (window : Window) (grids : List Grid) (station : Station) → AreGrids window grids → has_station window.stations station ≡ true → grid_of grids station ≡ None → ⊥
not_missing window grids station are heard none = let it = found window grids are station heard in some_or_none (grid_of grids station) it.0 it.1 none
  where
    some_or_none : (o : Option Grid) (g : Grid) → o ≡ Some g → o ≡ None → ⊥
    some_or_none o g e f = cc
