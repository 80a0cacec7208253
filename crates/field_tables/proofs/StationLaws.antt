-- Stations made from grids, one from each: they cost what the grids say.
use Rattle.std.proofs.Common.{◌≡◌, ℕ, zero, suc, inl, inr, ◌+◌, ◌<◌, ◌≤◌, ◌↔◌, true, List, [], ◌∷◌, ◌++◌, length, map, sum_by, get_or, Option, Some, refl, sym, ap, ◌∙◌, subst, arith}
use Rattle.std.specs.List.{All}
use Rattle.std.specs.Option.{option_map_or}
use Rattle.std.proofs.lemmas.List.Elements.{All-map}
use Rattle.std.proofs.lemmas.List.Sums.{sum_by-cons}
use Rattle.signal_base.specs.declared.station.Station.{Station}
use Rattle.signal_base.specs.declared.window.Window.{Window}
use Rattle.signal_base.specs.Waveform.{symbol_count}
use Rattle.definitions.specs.codes.Allowed.{CanBeEncoded, encoded_year, has_station}
use Rattle.definitions.specs.sequences.Windows.{IsWindow}
use Rattle.definitions.specs.time.Calendar.{century_minutes}
use Rattle.symbol_cost.specs.Grid.{Grid, HasCosts, cost_at}
use Rattle.minute_parts.specs.Parts.{IsPartTable}
use Rattle.plain_costs.specs.Agreement.{AgreeOn}
use Rattle.plain_costs.specs.Grids.{AreGrids, grid_costs, grid_of}
use Rattle.std.proofs.Math.ListN.{get_or-map}
use Rattle.std.proofs.lemmas.Bool.{cases_lt}
use Rattle.std.proofs.lemmas.List.{get_or_default, length-map}
use Rattle.plain_costs.proofs.GridLaws.{agree, heard_at, own_grid, place}
use Rattle.walk_costs.specs.Walks.{PricedParts}
use Rattle.field_tables.specs.Sums.{AreOf, AreSums, IsOf, grids_of}

-- one more of each
pub one_more : (gs : List Grid) (ws : List PricedParts) (g : Grid) (w : PricedParts) → AreOf gs ws → IsOf g w → AreOf (gs ++ g ∷ []) (ws ++ w ∷ [])
one_more [] [] g w are is = (is, tt)
one_more [] (x ∷ ws) g w are is = absurd are
one_more (h ∷ gs) [] g w are is = absurd are
one_more (h ∷ gs) (x ∷ ws) g w are is = (are.0, one_more gs ws g w are.1 is)

-- as many, and each is of its grid
pub as_many : (gs : List Grid) (ws : List PricedParts) → AreOf gs ws → length ws ≡ length gs
as_many [] [] are = refl
as_many [] (x ∷ ws) are = absurd are
as_many (h ∷ gs) [] are = absurd are
as_many (h ∷ gs) (x ∷ ws) are = ap suc (as_many gs ws are.1)

pub each_is : (gs : List Grid) (ws : List PricedParts) → AreOf gs ws → (k : ℕ) (g : Grid) (w : PricedParts) → k < length ws → IsOf (get_or gs k g) (get_or ws k w)
each_is [] [] are k g w lt = absurd (omega (arith, lt))
each_is [] (x ∷ ws) are k g w lt = absurd are
each_is (h ∷ gs) [] are k g w lt = absurd are
each_is (h ∷ gs) (x ∷ ws) are zero g w lt = are.0
each_is (h ∷ gs) (x ∷ ws) are (suc k) g w lt = each_is gs ws are.1 k g w (omega (arith, lt))

same_stations : (gs : List Grid) (ws : List PricedParts) → AreOf gs ws → map (λ (g : Grid). g.station) (grids_of ws) ≡ map (λ (g : Grid). g.station) gs
same_stations [] [] are = refl
same_stations [] (x ∷ ws) are = absurd are
same_stations (h ∷ gs) [] are = absurd are
same_stations (h ∷ gs) (x ∷ ws) are =
    let here = are.0.costs.of_station in
    let rest = same_stations gs ws are.1 in
    cc

same_receivers : (gs : List Grid) (ws : List PricedParts) → AreOf gs ws → sum_by (λ (g : Grid). g.receivers) (grids_of ws) ≡ sum_by (λ (g : Grid). g.receivers) gs
same_receivers [] [] are = refl
same_receivers [] (x ∷ ws) are = absurd are
same_receivers (h ∷ gs) [] are = absurd are
same_receivers (h ∷ gs) (x ∷ ws) are =
    let here = are.0.receivers in
    let rest = same_receivers gs ws are.1 in
    let left = sum_by-cons (λ (g : Grid). g.receivers) x.grid (grids_of ws) in
    let right = sum_by-cons (λ (g : Grid). g.receivers) h gs in
    omega (arith, here, rest, left, right)

no_grid : Station → Grid
no_grid station = record { station = station; receivers = 0; rows = [] }

module _ (window : Window) (gs : List Grid) (ws : List PricedParts) (are : AreOf gs ws) (grids : AreGrids window gs) where
  some_grid : (w : PricedParts) → Grid
  some_grid w = w.grid

  slots : (k : ℕ) (w : PricedParts) → k < length ws → length (get_or ws k w).grid.rows ≡ window.seconds
  slots k w lt =
      let is = each_is gs ws are k w.grid w lt in
      is.costs.slots ∙ grids.slots k w.grid (omega (arith, lt, as_many gs ws are))

  pub its_grids : AreGrids window (grids_of ws)
  its_grids = record {
    stations = same_stations gs ws are ∙ grids.stations;
    slots = All-map (λ (g : Grid). length g.rows ≡ window.seconds) (λ (w : PricedParts). w.grid) ws slots;
    few = omega (arith, same_receivers gs ws are, grids.few);
  }

  costs : (k : ℕ) (w : PricedParts) → k < length ws
      → HasCosts (get_or ws k w).grid (get_or ws k w).grid.station window.seconds (grid_costs gs (get_or ws k w).grid.station)
  costs k w lt =
      let within : k < length gs = omega (arith, lt, as_many gs ws are) in
      let is = each_is gs ws are k w.grid w lt in
      let v = get_or ws k w in
      let g = get_or gs k w.grid in
      let own : grid_of gs g.station ≡ Some g = own_grid window gs grids k w.grid within in
      let its : grid_costs gs g.station ≡ cost_at g.rows = ap (λ (o : Option Grid). option_map_or (λ (h : Grid). cost_at h.rows) o (λ k x. 0)) own in
      let same : v.grid.station ≡ g.station = is.costs.of_station in
      let told : grid_costs gs v.grid.station ≡ cost_at g.rows = ap (grid_costs gs) same ∙ its in
      record {
        of_station = refl;
        slots = slots k w lt;
        each = λ i x lt few.
            is.costs.each i x (omega (arith, lt, grids.slots k w.grid within)) (subst (λ (s : Station). x < symbol_count s) same few)
            ∙ sym (ap (λ (f : ℕ → ℕ → ℕ). f i x) told);
      }

  -- they cost the same
  pub agree_with : AgreeOn window (grid_costs (grids_of ws)) (grid_costs gs)
  agree_with = agree window (grids_of ws) its_grids (grid_costs gs) (All-map (λ (g : Grid). HasCosts g g.station window.seconds (grid_costs gs g.station)) (λ (w : PricedParts). w.grid) ws costs)

  pub own_parts : All (λ (w : PricedParts). w.parts.station ≡ w.grid.station) ws
  own_parts = λ k w lt. let is = each_is gs ws are k w.grid w lt in is.station ∙ sym is.costs.of_station

  pub tables : All (λ (w : PricedParts). IsPartTable w.parts) ws
  tables = λ k w lt. (each_is gs ws are k w.grid w lt).table

-- The minutes that all stations can encode end where the first of them can't.
module _ (window : Window) (ws : List PricedParts) (grids : AreGrids window (grids_of ws))
    (parts : All (λ (w : PricedParts). w.parts.station ≡ w.grid.station) ws) (tables : All (λ (w : PricedParts). IsPartTable w.parts) ws) where
  at_grid : (k : ℕ) (w : PricedParts) → get_or (grids_of ws) k w.grid ≡ (get_or ws k w).grid
  at_grid k w = get_or-map (λ (v : PricedParts). v.grid) ws k w

  as_long : length (grids_of ws) ≡ length ws
  as_long = length-map ws (λ (v : PricedParts). v.grid)

  pub heard_of : (k : ℕ) (w : PricedParts) → k < length ws → has_station window.stations (get_or ws k w).parts.station ≡ true
  heard_of k w lt =
      subst (λ (s : Station). has_station window.stations s ≡ true) (ap (λ (g : Grid). g.station) (at_grid k w) ∙ sym (parts k w lt))
      (heard_at window (grids_of ws) grids k w.grid (omega (arith, lt, as_long)))

  encoded_by_each : (t : ℕ) → CanBeEncoded window.stations t → All (λ (w : PricedParts). t < w.parts.end) ws
  encoded_by_each t can = λ k w lt. ((tables k w lt).ends t).1 (can.0, can.1 (get_or ws k w).parts.station (heard_of k w lt))

  pub encoded_by_all : (t : ℕ) → t < century_minutes → All (λ (w : PricedParts). t < w.parts.end) ws → CanBeEncoded window.stations t
  encoded_by_all t early each = (
    early,
    λ station heard.
        let at = place window (grids_of ws) grids station heard in
        let none : PricedParts = record { parts = record { station = station; times = []; runs = []; end = 0 }; grid = no_grid station } in
        let within : at.0 < length ws = omega (arith, at.1, as_long) in
        let v = get_or ws at.0 none in
        let same : v.parts.station ≡ station = parts at.0 none within ∙ ap (λ (g : Grid). g.station) (sym (at_grid at.0 none)) ∙ at.2 none.grid in
        let year = ((tables at.0 none within).ends t).0 (each at.0 none within) in
        subst (λ (s : Station). encoded_year s t ≤ 2099) same year.1,
  )

  pub end_is : (end : ℕ) → ((t : ℕ) → t < end → All (λ (w : PricedParts). t < w.parts.end) ws)
      → ((t : ℕ) → t < century_minutes → All (λ (w : PricedParts). t < w.parts.end) ws → t < end) → end ≤ century_minutes
      → (t : ℕ) → t < end ↔ CanBeEncoded window.stations t
  end_is end each before small t = (λ lt. encoded_by_all t (omega (arith, lt, small)) (each t lt), λ can. before t can.0 (encoded_by_each t can))

-- the first stations can encode the minute t
abbrev pub AreBefore : List PricedParts → ℕ → ℕ → Type 0
AreBefore ws i t = (k : ℕ) (d : PricedParts) → k < i → t < (get_or ws k d).parts.end

module _ (ws : List PricedParts) (i : ℕ) (w : PricedParts) (lt : i < length ws) (is : w ≡ get_or ws i w) (t : ℕ) where
  pub one_more_before : AreBefore ws i t → t < w.parts.end → AreBefore ws (i + 1) t
  one_more_before before here = λ k d within. elim (cases_lt k i) [
    | inl less ↦ before k d less
    | inr le ↦ (
        let same : k ≡ i = omega (arith, le, within) in
        let its : get_or ws k d ≡ w = ap (λ n. get_or ws n d) same ∙ get_or_default ws i d w lt ∙ sym is in
        subst (λ (v : PricedParts). t < v.parts.end) (sym its) here)
  ]

  pub last_before : AreBefore ws (i + 1) t → t < w.parts.end
  last_before all = subst (λ (v : PricedParts). t < v.parts.end) (sym is) (all i w (omega arith))

no_later : (end more : ℕ) → ((t : ℕ) → t < end → t < more) → end ≤ more
no_later end more each = elim (cases_lt more end) [
  | inl lt ↦ absurd (omega (arith, each more lt))
  | inr le ↦ le
]

-- all of it together
pub are_sums : (window : Window) (gs : List Grid) (ws : List PricedParts) (end : ℕ) → IsWindow window → AreGrids window gs → AreOf gs ws
    → ((t : ℕ) → t < end → All (λ (w : PricedParts). t < w.parts.end) ws)
    → ((t : ℕ) → t < century_minutes → All (λ (w : PricedParts). t < w.parts.end) ws → t < end) → end ≤ century_minutes
    → AreSums (record { window = window; stations = ws; end = end })
are_sums window gs ws end is grids are each before early =
    let its = its_grids window gs ws are grids in
    let own = own_parts window gs ws are grids in
    let each_table = tables window gs ws are grids in
    record {
      window = is;
      grids = its;
      parts = own;
      tables = each_table;
      end = end_is window ws its own each_table end each before early;
      within = λ k w lt. no_later end (get_or ws k w).parts.end (λ t less. each t less k w lt);
    }
