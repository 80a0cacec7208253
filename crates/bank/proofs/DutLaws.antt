-- What the grids of a window tell of DUT1 is what the bank's costs tell.
use Rattle.std.proofs.Common.{◌≡◌, ℕ, suc, ◌<◌, ◌≤◌, Bool, true, false, if◌then◌else◌, nat_eq, List, [], ◌∷◌, filter, length, get_or, map, refl, sym, ap, ◌∙◌, subst, arith, eq-eqb}
use Rattle.signal_base.specs.declared.dut.StationDut.{StationDut}
use Rattle.signal_base.specs.declared.station.Station.{Station}
use Rattle.signal_base.specs.declared.station.Station.TheVariants.{Dcf77, Msf, Wwvb, Jjy}
use Rattle.signal_base.specs.declared.window.Window.{Window}
use Rattle.signal_base.specs.Number.{number_of}
use Rattle.signal_base.specs.Waveform.{symbol_count}
use Rattle.definitions.specs.declared.sequence.Sequence.{Sequence}
use Rattle.definitions.specs.codes.Allowed.{has_station, stations_of}
use Rattle.definitions.specs.heard.Costs.{Costs, dut_of}
use Rattle.symbol_cost.specs.Grid.{Grid, HasCosts, cost_at}
use Rattle.field_tables.specs.Agreement.{AgreeOn}
use Rattle.field_tables.specs.Grids.{AreGrids, HaveCosts}
use Rattle.plain_costs.proofs.AgreementLaws.{dut_same}
use Rattle.plain_costs.proofs.GridLaws.{heard_station}
use Rattle.bank.proofs.LogListLaws.{length_map}

same_station : (s t : Station) → nat_eq (number_of s) (number_of t) ≡ true → s ≡ t
same_station Dcf77 Dcf77 e = refl
same_station Dcf77 Msf e = cc
same_station Dcf77 Wwvb e = cc
same_station Dcf77 Jjy e = cc
same_station Msf Dcf77 e = cc
same_station Msf Msf e = refl
same_station Msf Wwvb e = cc
same_station Msf Jjy e = cc
same_station Wwvb Dcf77 e = cc
same_station Wwvb Msf e = cc
same_station Wwvb Wwvb e = refl
same_station Wwvb Jjy e = cc
same_station Jjy Dcf77 e = cc
same_station Jjy Msf e = cc
same_station Jjy Wwvb e = cc
same_station Jjy Jjy e = refl

-- the costs with those of a grid in place of its station's
abbrev mixed : Grid → Costs → Costs
mixed grid costs station = if nat_eq (number_of station) (number_of grid.station) then cost_at grid.rows else costs station

chosen : {X : Type 0} (b : Bool) (x y : X) → b ≡ true → (if b then x else y) ≡ x
chosen true x y e = refl
chosen false x y e = cc

mixed_agree : (window : Window) (costs : Costs) (grid : Grid) → HasCosts grid grid.station window.seconds (costs grid.station) → AgreeOn window (mixed grid costs) costs
mixed_agree window costs grid has station k x heard lt few = by_test (nat_eq (number_of station) (number_of grid.station)) refl
  where
    by_test : (b : Bool) → nat_eq (number_of station) (number_of grid.station) ≡ b → (if b then cost_at grid.rows else costs station) k x ≡ costs station k x
    by_test true e =
        let same = same_station station grid.station e in
        has.each k x lt (subst (λ (s : Station). x < symbol_count s) same few) ∙ ap (λ (s : Station). costs s k x) (sym same)
    by_test false e = refl

pub dut_by_grid : (window : Window) (costs : Costs) (grid : Grid) (q : Sequence) → HasCosts grid grid.station window.seconds (costs grid.station)
    → has_station window.stations grid.station ≡ true
    → dut_of grid.station (cost_at grid.rows) window.seconds q ≡ dut_of grid.station (costs grid.station) window.seconds q
dut_by_grid window costs grid q has heard =
    let itself = chosen (nat_eq (number_of grid.station) (number_of grid.station)) (cost_at grid.rows) (costs grid.station) (eq-eqb (number_of grid.station) (number_of grid.station) refl) in
    ap (λ (c : ℕ → ℕ → ℕ). dut_of grid.station c window.seconds q) (sym itself) ∙ dut_same window (mixed grid costs) costs (mixed_agree window costs grid has) grid.station heard q

module _ (window : Window) (costs : Costs) (q : Sequence) where
  by_grid : Grid → StationDut
  by_grid grid = record { station = grid.station; dut = dut_of grid.station (cost_at grid.rows) window.seconds q }

  by_costs : Station → StationDut
  by_costs station = record { station = station; dut = dut_of station (costs station) window.seconds q }

  told_part : (grids : List Grid)
      → ((k : ℕ) (g : Grid) → k < length grids → g ≡ get_or grids k g → dut_of g.station (cost_at g.rows) window.seconds q ≡ dut_of g.station (costs g.station) window.seconds q)
      → map (λ (g : Grid). let told : StationDut = record { station = g.station; dut = dut_of g.station (cost_at g.rows) window.seconds q } in told) grids
      ≡ map (λ (s : Station). let told : StationDut = record { station = s; dut = dut_of s (costs s) window.seconds q } in told) (map (λ (g : Grid). g.station) grids)
  told_part [] all = refl
  told_part (g ∷ grids) all =
      let head = all 0 g (omega arith) refl in
      let tail = told_part grids (λ k h within is. all (suc k) h (omega arith) is) in
      cc

  pub told_all : (grids : List Grid) → AreGrids window grids → HaveCosts window grids costs
      → map (λ (g : Grid). let told : StationDut = record { station = g.station; dut = dut_of g.station (cost_at g.rows) window.seconds q } in told) grids
      ≡ map (λ (s : Station). let told : StationDut = record { station = s; dut = dut_of s (costs s) window.seconds q } in told) (stations_of window.stations)
  told_all grids are have =
      told_part grids (λ k g within is.
      dut_by_grid window costs g q (subst (λ (h : Grid). HasCosts h h.station window.seconds (costs h.station)) (sym is) (have k g within)) (heard_station window grids are k g g.station within is refl))
      ∙ ap (map (λ (s : Station). let told : StationDut = record { station = s; dut = dut_of s (costs s) window.seconds q } in told)) are.stations

length_filter : {X : Type 0} (p : X → Bool) (xs : List X) → length (filter p xs) ≤ length xs
length_filter p [] = omega arith
length_filter p (x ∷ xs) = by_test (p x) (length_filter p xs)
  where
    by_test : (b : Bool) → length (filter p xs) ≤ length xs → length (if b then x ∷ filter p xs else filter p xs) ≤ suc (length xs)
    by_test true few = omega arith
    by_test false few = omega arith

pub at_most_four_grids : (window : Window) (grids : List Grid) → AreGrids window grids → length grids ≤ 4
at_most_four_grids window grids are =
    let count = length_map (λ (g : Grid). g.station) grids in
    let same = ap length are.stations in
    let few = length_filter (has_station window.stations) (Dcf77 ∷ Msf ∷ Wwvb ∷ Jjy ∷ []) in
    omega arith
