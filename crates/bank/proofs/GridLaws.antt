-- The grids of a window's stations, one after the other; and what each station's receivers heard.
use Rattle.std.proofs.Common.{◌≡◌, ℕ, ◌+◌, ◌≤◌, true, false, List, [], ◌∷◌, ◌++◌, length, filter, refl, sym, ap, ◌∙◌, subst, arith}
use Rattle.std.proofs.lemmas.List.{map-append}
use Rattle.std.proofs.lemmas.List.Elements.{All-append, All-cons, All-nil, filter-append}
use Rattle.std.proofs.lemmas.List.Sums.{sum_by-append}
use Rattle.signal_base.specs.declared.limits.TheConstants.{MOST_RECEIVERS}
use Rattle.signal_base.specs.declared.station.Station.{Station}
use Rattle.signal_base.specs.declared.station.Station.TheVariants.{Dcf77, Msf, Wwvb, Jjy}
use Rattle.signal_base.specs.declared.window.Window.{Window}
use Rattle.definitions.specs.codes.Allowed.{has_station}
use Rattle.definitions.specs.heard.Costs.{Costs}
use Rattle.symbol_cost.specs.Grid.{Grid, HasCosts}
use Rattle.field_tables.specs.Grids.{AreGrids}
use Rattle.bank.specs.Hearing.{AreGridsOf}

-- no grid yet
pub no_grids : (window : Window) (costs : Costs) → AreGridsOf window costs [] 0 []
no_grids window costs = record { stations_are = refl; slots = All-nil (λ (g : Grid). length g.rows ≡ window.seconds); costs_are = All-nil (λ (g : Grid). HasCosts g g.station window.seconds (costs g.station)); few = omega arith }

-- a station that the window doesn't have gets none
pub not_added : (window : Window) (costs : Costs) (stations : List Station) (n : ℕ) (grids : List Grid) (station : Station) (count : ℕ)
    → has_station window.stations station ≡ false → AreGridsOf window costs stations n grids → AreGridsOf window costs (stations ++ station ∷ []) (n + count) grids
not_added window costs stations n grids station count has are = record {
  stations_are = are.stations_are ∙ sym (filter-append (has_station window.stations) stations (station ∷ []) ∙ rw has (append_nil (filter (has_station window.stations) stations)));
  slots = are.slots;
  costs_are = are.costs_are;
  few = omega (arith, are.few);
}
  where
    append_nil : (xs : List Station) → xs ++ [] ≡ xs
    append_nil [] = refl
    append_nil (x ∷ xs) = ap (λ (ys : List Station). x ∷ ys) (append_nil xs)

-- the grid of a station that the window has
pub added : (window : Window) (costs : Costs) (stations : List Station) (n : ℕ) (grids : List Grid) (station : Station) (count : ℕ) (grid : Grid)
    → has_station window.stations station ≡ true → HasCosts grid station window.seconds (costs station) → grid.receivers ≡ count
    → AreGridsOf window costs stations n grids → AreGridsOf window costs (stations ++ station ∷ []) (n + count) (grids ++ grid ∷ [])
added window costs stations n grids station count grid has is many are = record {
  stations_are =
      map-append (λ (g : Grid). g.station) grids (grid ∷ [])
      ∙ rw (are.stations_are, is.of_station) (sym (filter-append (has_station window.stations) stations (station ∷ []) ∙ rw has refl));
  slots = All-append (λ (g : Grid). length g.rows ≡ window.seconds) grids (grid ∷ []) are.slots (All-cons (λ (g : Grid). length g.rows ≡ window.seconds) grid [] is.slots (All-nil (λ (g : Grid). length g.rows ≡ window.seconds)));
  costs_are =
      All-append (λ (g : Grid). HasCosts g g.station window.seconds (costs g.station)) grids (grid ∷ []) are.costs_are
      (All-cons (λ (g : Grid). HasCosts g g.station window.seconds (costs g.station)) grid [] (subst (λ (s : Station). HasCosts grid s window.seconds (costs s)) (sym is.of_station) is)
      (All-nil (λ (g : Grid). HasCosts g g.station window.seconds (costs g.station))));
  few = let sum = sum_by-append (λ (g : Grid). g.receivers) grids (grid ∷ []) in omega (arith, are.few);
}

-- with those of all four stations they are the window's
pub all_added : (window : Window) (costs : Costs) (a b c d : ℕ) (grids : List Grid) → a + b + c + d ≤ MOST_RECEIVERS
    → AreGridsOf window costs (Dcf77 ∷ Msf ∷ Wwvb ∷ Jjy ∷ []) (0 + a + b + c + d) grids → AreGrids window grids
all_added window costs a b c d grids few are = record { stations = are.stations_are; slots = are.slots; few = omega (arith, are.few) }
