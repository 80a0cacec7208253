-- A grid whose rows were moved.
use Rattle.std.proofs.Common.{◌≡◌, ℕ, ◌+◌, ◌*◌, List, refl, sym, subst, arith}
use Rattle.signal_base.specs.declared.station.Station.{Station}
use Rattle.signal_base.specs.declared.tuning.CostTable.{CostTable}
use Rattle.definitions.specs.heard.Receivers.{Reception}
use Rattle.definitions.specs.heard.Costs.{slot_cost}
use Rattle.symbol_cost.specs.Grid.{AreRows, AreSmall, Grid, HasCosts}

-- a grid by its parts
abbrev pub grid_of : Station → ℕ → List (List ℕ) → Grid
grid_of station receivers rows = record { station = station; receivers = receivers; rows = rows }

module _ (table : CostTable) (rs : List Reception) (s : Station) (receivers count : ℕ) (old rows : List (List ℕ)) (start phase by : ℕ) where
  -- with the rows of the later window it has the costs of that
  pub later_grid : receivers ≡ count → AreSmall receivers old
      → ((n : ℕ) → AreRows old s n count (slot_cost table rs s (start + phase)) → AreRows rows s n count (slot_cost table rs s (start + phase + 1000 * by)))
      → (station : Station) (n : ℕ) → HasCosts (grid_of s receivers old) station n (slot_cost table rs station (start + phase))
      → HasCosts (grid_of s receivers rows) station n (slot_cost table rs station (start + 1000 * by + phase))
  later_grid same small moves station n have =
      let before = subst (λ (t : Station). HasCosts (grid_of s receivers old) t n (slot_cost table rs t (start + phase))) (sym have.of_station) have in
      let after = moves n (record { slots = before.slots; each = before.each; small = subst (λ (m : ℕ). AreSmall m old) same small }) in
      let at : start + phase + 1000 * by ≡ start + 1000 * by + phase = omega arith in
      subst (λ (t : Station). HasCosts (grid_of s receivers rows) t n (slot_cost table rs t (start + 1000 * by + phase))) have.of_station
      (subst (λ (b : ℕ). HasCosts (grid_of s receivers rows) s n (slot_cost table rs s b)) at (record { of_station = refl; slots = after.slots; each = after.each }))
