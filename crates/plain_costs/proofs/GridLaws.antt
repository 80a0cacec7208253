-- The grids of a window: which is a station's, and sums over them.
use Rattle.std.proofs.Common.{◌≡◌, ◌≢◌, ℕ, zero, suc, ◌<◌, ◌≤◌, ◌==◌, ◌⊎◌, inl, inr, Bool, true, false, if◌then◌else◌, List, [], ◌∷◌, length, map, filter, sum_by, get_or, Option, Some, None, refl, sym, ap, ◌∙◌, subst, arith, eq-eqb}
use Rattle.std.specs.Option.{option_map_or}
use Rattle.std.specs.List.{slice_get}
use Rattle.std.proofs.lemmas.Bool.{ne_eqb}
use Rattle.std.proofs.lemmas.List.Folds.{find_at}
use Rattle.std.proofs.lemmas.Option.{slice_get-get_or, slice_get_past}
use Rattle.std.proofs.lemmas.List.Sums.{position_or_len_is, sum_by-cons}
use Rattle.signal_base.specs.declared.station.Station.{Station}
use Rattle.signal_base.specs.declared.station.Station.TheVariants.{Dcf77, Msf, Wwvb, Jjy}
use Rattle.signal_base.specs.declared.window.Window.{Window}
use Rattle.signal_base.specs.Number.{number_of}
use Rattle.signal_base.specs.Waveform.{symbol_count}
use Rattle.definitions.specs.codes.Allowed.{has_station, stations_of}
use Rattle.definitions.specs.heard.Costs.{Costs}
use Rattle.symbol_cost.specs.Grid.{Grid, cost_at}
use Rattle.plain_costs.specs.Agreement.{AgreeOn}
use Rattle.plain_costs.specs.Grids.{AreGrids, HaveCosts, grid_costs, grid_of}

-- the stations have other numbers than this one
abbrev AreOthers : Station → List Station → Type 0
AreOthers s [] = Unit {0}
AreOthers s (x ∷ xs) = (number_of x ≢ number_of s) × AreOthers s xs

-- no two of the stations have one number
abbrev AreApart : List Station → Type 0
AreApart [] = Unit {0}
AreApart (x ∷ xs) = AreOthers x xs × AreApart xs

-- the station is one of these
abbrev IsAmong : Station → List Station → Type 0
IsAmong s [] = ⊥
IsAmong s (x ∷ xs) = (s ≡ x) ⊎ IsAmong s xs

others_that_pass : (p : Station → Bool) (s : Station) (xs : List Station) → AreOthers s xs → AreOthers s (filter p xs)
others_that_pass p s [] others = tt
others_that_pass p s (x ∷ xs) others = by_test (p x) (others_that_pass p s xs others.1)
  where
    by_test : (t : Bool) → AreOthers s (filter p xs) → AreOthers s (if t then x ∷ filter p xs else filter p xs)
    by_test true rest = (others.0, rest)
    by_test false rest = rest

apart_that_pass : (p : Station → Bool) (xs : List Station) → AreApart xs → AreApart (filter p xs)
apart_that_pass p [] apart = tt
apart_that_pass p (x ∷ xs) apart = by_test (p x) (apart_that_pass p xs apart.1)
  where
    by_test : (t : Bool) → AreApart (filter p xs) → AreApart (if t then x ∷ filter p xs else filter p xs)
    by_test true rest = (others_that_pass p x xs apart.0, rest)
    by_test false rest = rest

among_that_pass : (p : Station → Bool) (s : Station) → p s ≡ true → (xs : List Station) → IsAmong s xs → IsAmong s (filter p xs)
among_that_pass p s passes [] among = among
among_that_pass p s passes (x ∷ xs) (inl here) = rw (sym (ap p here) ∙ passes) (inl here)
among_that_pass p s passes (x ∷ xs) (inr later) = by_test (p x) (among_that_pass p s passes xs later)
  where
    by_test : (t : Bool) → IsAmong s (filter p xs) → IsAmong s (if t then x ∷ filter p xs else filter p xs)
    by_test true rest = inr rest
    by_test false rest = rest

four_apart : AreApart (Dcf77 ∷ Msf ∷ Wwvb ∷ Jjy ∷ [])
four_apart =
    ((λ e. omega (arith, e), (λ e. omega (arith, e), (λ e. omega (arith, e), tt))), ((λ e. omega (arith, e), (λ e. omega (arith, e), tt)), ((λ e. omega (arith, e), tt), (tt, tt))))

among_four : (s : Station) → IsAmong s (Dcf77 ∷ Msf ∷ Wwvb ∷ Jjy ∷ [])
among_four Dcf77 = inl refl
among_four Msf = inr (inl refl)
among_four Wwvb = inr (inr (inl refl))
among_four Jjy = inr (inr (inr (inl refl)))

-- the stations pass a test
abbrev AllPass : (Station → Bool) → List Station → Type 0
AllPass p [] = Unit {0}
AllPass p (x ∷ xs) = (p x ≡ true) × AllPass p xs

those_that_pass : (p : Station → Bool) (xs : List Station) → AllPass p (filter p xs)
those_that_pass p [] = tt
those_that_pass p (x ∷ xs) = by_test (p x) refl (those_that_pass p xs)
  where
    by_test : (t : Bool) → p x ≡ t → AllPass p (filter p xs) → AllPass p (if t then x ∷ filter p xs else filter p xs)
    by_test true e rest = (e, rest)
    by_test false e rest = rest

station_passes : (p : Station → Bool) (grids : List Grid) → AllPass p (map (λ g. g.station) grids) → (k : ℕ) (d : Grid) → k < length grids
    → p (get_or grids k d).station ≡ true
station_passes p [] pass k d within = absurd (omega arith)
station_passes p (g ∷ grids) pass zero d within = pass.0
station_passes p (g ∷ grids) pass (suc k) d within = station_passes p grids pass.1 k d (omega arith)

-- no later grid is of the station
later_other : (s : Station) (grids : List Grid) → AreOthers s (map (λ g. g.station) grids) → (k : ℕ) (d : Grid) → k < length grids
    → number_of (get_or grids k d).station ≢ number_of s
later_other s [] others k d within = absurd (omega arith)
later_other s (g ∷ grids) others zero d within = others.0
later_other s (g ∷ grids) others (suc k) d within = later_other s grids others.1 k d (omega arith)

-- each grid is that of its station
own : (grids : List Grid) → AreApart (map (λ g. g.station) grids) → (k : ℕ) (d : Grid) → k < length grids
    → grid_of grids (get_or grids k d).station ≡ Some (get_or grids k d)
own [] apart k d within = absurd (omega arith)
own (g ∷ grids) apart zero d within = rw (eq-eqb (number_of g.station) (number_of g.station) refl) refl
own (g ∷ grids) apart (suc k) d within =
    let h = get_or grids k d in
    let other = later_other g.station grids apart.0 k d (omega arith) in
    let passed_over : (number_of g.station == number_of h.station) ≡ false = ne_eqb _ _ (λ e. other (sym e)) in
    rw passed_over (own grids apart.1 k d (omega arith))

-- a station that some grid has
place_of : (s : Station) (grids : List Grid) → IsAmong s (map (λ g. g.station) grids) → (k : ℕ) × (k < length grids) × ((d : Grid) → (get_or grids k d).station ≡ s)
place_of s [] among = absurd among
place_of s (g ∷ grids) (inl here) = (0, omega arith, λ d. sym here)
place_of s (g ∷ grids) (inr later) = let rest = place_of s grids later in (suc rest.0, omega (arith, rest.1), rest.2)

-- sums over grids whose stations have them as their own
sum_over : (F : Station → (ℕ → ℕ → ℕ) → ℕ) (all part : List Grid)
    → ((k : ℕ) (d : Grid) → k < length part → grid_of all (get_or part k d).station ≡ Some (get_or part k d))
    → sum_by (λ g. F g.station (cost_at g.rows)) part ≡ sum_by (λ s. F s (grid_costs all s)) (map (λ g. g.station) part)
sum_over F all [] owns = refl
sum_over F all (g ∷ part) owns =
    let mine : grid_of all g.station ≡ Some g = owns 0 g (omega arith) in
    let price : F g.station (grid_costs all g.station) ≡ F g.station (cost_at g.rows) =
    ap (λ (o : Option Grid). F g.station (option_map_or (λ h. cost_at h.rows) o (λ k x. 0))) mine in
    let rest = sum_over F all part (λ k d within. owns (suc k) d (omega arith)) in
    let left = sum_by-cons (λ (h : Grid). F h.station (cost_at h.rows)) g part in
    let right = sum_by-cons (λ (s : Station). F s (grid_costs all s)) g.station (map (λ (h : Grid). h.station) part) in
    omega arith

module _ (window : Window) (grids : List Grid) (are : AreGrids window grids) where
  apart : AreApart (map (λ g. g.station) grids)
  apart = subst AreApart (sym are.stations) (apart_that_pass (has_station window.stations) (Dcf77 ∷ Msf ∷ Wwvb ∷ Jjy ∷ []) four_apart)

  -- each grid is that of its station
  pub own_grid : (k : ℕ) (d : Grid) → k < length grids → grid_of grids (get_or grids k d).station ≡ Some (get_or grids k d)
  own_grid = own grids apart

  -- a sum over the grids is one over the window's stations
  pub sum_by_station : (F : Station → (ℕ → ℕ → ℕ) → ℕ)
      → sum_by (λ g. F g.station (cost_at g.rows)) grids ≡ sum_by (λ s. F s (grid_costs grids s)) (stations_of window.stations)
  sum_by_station F = sum_over F grids grids (own grids apart) ∙ ap (sum_by (λ s. F s (grid_costs grids s))) are.stations

  -- the station of each grid is one of the window
  pub heard_at : (k : ℕ) (d : Grid) → k < length grids → has_station window.stations (get_or grids k d).station ≡ true
  heard_at k d within =
      let all = subst (AllPass (has_station window.stations)) (sym are.stations) (those_that_pass (has_station window.stations) (Dcf77 ∷ Msf ∷ Wwvb ∷ Jjy ∷ [])) in
      station_passes (has_station window.stations) grids all k d within

  pub heard_station : (k : ℕ) (g : Grid) (station : Station) → k < length grids → g ≡ get_or grids k g → station ≡ g.station
      → has_station window.stations station ≡ true
  heard_station k g station within is same =
      subst (λ (s : Station). has_station window.stations s ≡ true) (ap (λ (h : Grid). h.station) (sym is) ∙ sym same)
      (heard_at k g within)

  -- each station of the window has its grid
  pub place : (station : Station) → has_station window.stations station ≡ true → (k : ℕ) × (k < length grids) × ((d : Grid) → (get_or grids k d).station ≡ station)
  place station heard =
      place_of station grids (subst (IsAmong station) (sym are.stations) (among_that_pass (has_station window.stations) station heard (Dcf77 ∷ Msf ∷ Wwvb ∷ Jjy ∷ []) (among_four station)))

  -- the grid of a station of the window
  pub found : (station : Station) → has_station window.stations station ≡ true
      → (g : Grid) × (grid_of grids station ≡ Some g) × (g.station ≡ station) × (length g.rows ≡ window.seconds)
  found station heard =
      let at = place station heard in
      let none : Grid = record { station = station; receivers = 0; rows = [] } in
      (get_or grids at.0 none, subst (λ (s : Station). grid_of grids s ≡ Some (get_or grids at.0 none)) (at.2 none) (own grids apart at.0 none at.1), at.2 none, are.slots at.0 none at.1)

  pub agree : (costs : Costs) → HaveCosts window grids costs → AgreeOn window (grid_costs grids) costs
  agree costs have = λ station k x heard lt few.
      let at = place station heard in
      let none : Grid = record { station = station; receivers = 0; rows = [] } in
      let g = get_or grids at.0 none in
      let of_station : g.station ≡ station = at.2 none in
      let mine : grid_of grids g.station ≡ Some g = own grids apart at.0 none at.1 in
      let price = (have at.0 none at.1).each k x lt (subst (λ (s : Station). x < symbol_count s) (sym of_station) few) in
      subst (λ (s : Station). grid_costs grids s k x ≡ costs s k x) of_station
      (ap (λ (o : Option Grid). option_map_or (λ (h : Grid). cost_at h.rows) o (λ k x. 0) k x) mine ∙ price)

-- the grids before this one are of other stations
abbrev pub AreBefore : List Grid → Station → ℕ → Type 0
AreBefore grids station i = (k : ℕ) (d : Grid) → k < i → (number_of (get_or grids k d).station == number_of station) ≡ false

-- the first grid of a station, and none
pub first_grid : (grids : List Grid) (station : Station) (i : ℕ) (g : Grid) → AreBefore grids station i → i < length grids → g ≡ get_or grids i g
    → number_of g.station ≡ number_of station → grid_of grids station ≡ Some g
first_grid grids station i g before within is same =
    let test = λ (h : Grid). number_of h.station == number_of station in
    let here : test (get_or grids i g) ≡ true = ap test (sym is) ∙ eq-eqb _ _ same in
    let at = position_or_len_is test grids i g (omega arith) (λ k lt. before k g lt) (λ lt. here) in
    find_at test grids ∙ ap (slice_get grids) at ∙ slice_get-get_or grids i g within ∙ ap Some (sym is)

pub no_grid : (grids : List Grid) (station : Station) (i : ℕ) → AreBefore grids station i → length grids ≤ i → grid_of grids station ≡ None
no_grid grids station i before past =
    let test = λ (h : Grid). number_of h.station == number_of station in
    let d : Grid = record { station = station; receivers = 0; rows = [] } in
    let at = position_or_len_is test grids (length grids) d (omega arith) (λ k lt. before k d (omega arith)) (λ lt. absurd (omega (arith, lt))) in
    find_at test grids ∙ ap (slice_get grids) at ∙ slice_get_past grids (length grids) (omega arith)
