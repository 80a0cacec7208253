-- Which parts there are of a window's stations.
use Rattle.std.proofs.Common.{◌≡◌, ℕ, ◌<◌, ◌≤◌, Bool, true, false, not, if◌then◌else◌, List, [], ◌∷◌, ◌++◌, length, get_or, map, filter, refl, sym, ap, ◌∙◌, arith, append_assoc, append-nil}
use Rattle.std.proofs.lemmas.List.{get_or-map, length-map}
use Rattle.std.proofs.lemmas.List.Filters.{length-filter_both}
use Rattle.signal_base.specs.declared.station.Station.{Station}
use Rattle.signal_base.specs.declared.station.Station.TheVariants.{Dcf77, Msf, Wwvb, Jjy}
use Rattle.signal_base.specs.declared.station.Stations.{Stations}
use Rattle.signal_base.specs.declared.window.Window.{Window}
use Rattle.definitions.specs.codes.Allowed.{has_station}
use Rattle.symbol_cost.specs.Grid.{Grid}
use Rattle.plain_costs.specs.Grids.{AreGrids}
use Rattle.leap_unions.specs.Scope.{Scope}
use Rattle.field_tables.specs.Scopes.{scope_if, scope_of, scopes_of}

module _ (stations : Stations) (seconds : ℕ) where
  abbrev of_list : List Station → List Scope
  of_list list = map (scope_of seconds) (filter (has_station stations) list)

  by_test : (t : Bool) (station : Station) (rest : List Station)
      → map (scope_of seconds) (if t then station ∷ rest else rest) ≡ (if t then scope_of seconds station ∷ [] else []) ++ map (scope_of seconds) rest
  by_test true station rest = refl
  by_test false station rest = refl

  -- one station more, behind those before it
  one_more : (done : List Scope) (station : Station) (rest : List Station)
      → (done ++ scope_if stations seconds station) ++ of_list rest ≡ done ++ of_list (station ∷ rest)
  one_more done station rest =
      append_assoc done (scope_if stations seconds station) (of_list rest)
      ∙ ap (λ (xs : List Scope). done ++ xs) (sym (by_test (has_station stations station) station (filter (has_station stations) rest)))

  pub one_by_one : ((([] ++ scope_if stations seconds Dcf77) ++ scope_if stations seconds Msf) ++ scope_if stations seconds Wwvb) ++ scope_if stations seconds Jjy
      ≡ scopes_of stations seconds
  one_by_one =
      let a : List Scope = [] ++ scope_if stations seconds Dcf77 in
      let b : List Scope = a ++ scope_if stations seconds Msf in
      let c : List Scope = b ++ scope_if stations seconds Wwvb in
      sym (append-nil (c ++ scope_if stations seconds Jjy))
      ∙ one_more c Jjy [] ∙ one_more b Wwvb (Jjy ∷ []) ∙ one_more a Msf (Wwvb ∷ Jjy ∷ []) ∙ one_more [] Dcf77 (Msf ∷ Wwvb ∷ Jjy ∷ [])

-- there is one for each grid, of its station and length
module _ (window : Window) (grids : List Grid) (are : AreGrids window grids) where
  by_grids : scopes_of window.stations window.seconds ≡ map (scope_of window.seconds) (map (λ (g : Grid). g.station) grids)
  by_grids = ap (map (scope_of window.seconds)) (sym are.stations)

  pub as_many_scopes : length (scopes_of window.stations window.seconds) ≡ length grids
  as_many_scopes =
      ap (λ (xs : List Scope). length xs) by_grids
      ∙ length-map (map (λ (g : Grid). g.station) grids) (scope_of window.seconds) ∙ length-map grids (λ (g : Grid). g.station)

  -- no window has more than four
  pub few_grids : length grids ≤ 4
  few_grids =
      let has = has_station window.stations in
      let same : length (map (λ (g : Grid). g.station) grids) ≡ length (filter has (Dcf77 ∷ Msf ∷ Wwvb ∷ Jjy ∷ [])) =
      ap (λ (xs : List Station). length xs) are.stations in
      let others = length-filter_both has (λ (s : Station). not (has s)) (λ s. refl) (Dcf77 ∷ Msf ∷ Wwvb ∷ Jjy ∷ []) in
      omega (arith, same, length-map grids (λ (g : Grid). g.station), others)

  pub scope_at : (i : ℕ) (g : Grid) (d : Scope) → i < length grids
      → get_or (scopes_of window.stations window.seconds) i d ≡ scope_of (length (get_or grids i g).rows) (get_or grids i g).station
  scope_at i g d lt =
      let within : i < length (map (λ (h : Grid). h.station) grids) = omega (arith, lt, length-map grids (λ (h : Grid). h.station)) in
      ap (λ (xs : List Scope). get_or xs i d) by_grids
      ∙ get_or-map (scope_of window.seconds) (map (λ (h : Grid). h.station) grids) i g.station d within
      ∙ ap (scope_of window.seconds) (get_or-map (λ (h : Grid). h.station) grids i g g.station lt)
      ∙ ap (λ (n : ℕ). scope_of n (get_or grids i g).station) (sym (are.slots i g lt))
