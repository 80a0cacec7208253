-- The unions of a block's slots, in two layers.
use Rattle.std.proofs.Common.{◌≡◌, ℕ, ◌+◌, ◌-◌, ◌/◌, ◌%◌, ◌<◌, ◌≤◌, Bool, true, false, nat_lt, if◌then◌else◌, length, get_or, refl, sym, ap, subst, arith}
use Rattle.std.proofs.lemmas.Bool.{ltb-true, ltb-false}
use Rattle.signal_base.specs.declared.station.Station.{Station}
use Rattle.definitions.specs.codes.Allowed.{allowed}
use Rattle.definitions.proofs.CostLaws.{sum_below_same}
use Rattle.definitions.specs.heard.Costs.{set_cost}
use Rattle.symbol_cost.specs.Grid.{Grid, cost_at}
use Rattle.slot_columns.specs.Parts.{layered_cost, layered_set}
use Rattle.minute_parts.specs.declared.layers.Layers.{Layers}
use Rattle.minute_parts.specs.Layers.{AreLayers}
use Rattle.minute_parts.specs.Unions.{IsUnionOver}
use Rattle.minute_parts.proofs.UnionLaws.{one_union}
use Rattle.block_costs.specs.Blocks.{AreUnionsOfWalks, unions_cost}

-- a slot has one union
pub one_set : (station : Station) (announced : Bool) (p lo hi n : ℕ) (sets : ℕ → ℕ) → AreUnionsOfWalks station announced p lo hi n sets
    → (k m s set : ℕ) → k < n → m ≡ (p + k) / 60 → s ≡ (p + k) % 60 → IsUnionOver station announced (lo + m) (hi + m) s set → set ≡ sets k
one_set station announced p lo hi n sets are k m s set lt minute second union =
    one_union (λ t. allowed station announced (t, s)) (lo + m) (hi + m) set (sets k) union
    (subst (λ x. IsUnionOver station announced (lo + m) (hi + m) x (sets k)) (sym second)
    (subst (λ x. IsUnionOver station announced (lo + x) (hi + x) ((p + k) % 60) (sets k)) (sym minute) (are k lt)))

module _ (grid : Grid) (announced : Bool) (p lo hi reach : ℕ) (layers : Layers) (small : p < 60)
    (reached : (p + length grid.rows - 1) / 60 ≤ reach) (two : AreLayers grid.station announced lo hi reach layers)
    (sets : ℕ → ℕ) (are : AreUnionsOfWalks grid.station announced p lo hi (length grid.rows) sets) where
  slot_by : (k : ℕ) → k < length grid.rows → (early : Bool) → nat_lt (p + k) 60 ≡ early
      → (if early then get_or layers.first (p + k) 0 else get_or layers.rest ((p + k) % 60) 0) ≡ sets k
  slot_by k lt true e =
      let within = ltb-true (p + k) 60 e in
      let first = two.first (p + k) within in
      let from : lo ≡ lo + 0 = omega arith in
      let to : hi ≡ hi + 0 = omega arith in
      one_set grid.station announced p lo hi (length grid.rows) sets are k 0 (p + k) (get_or layers.first (p + k) 0) lt (omega arith) (omega arith)
      (subst (λ x. IsUnionOver grid.station announced (lo + 0) x (p + k) (get_or layers.first (p + k) 0)) to
      (subst (λ x. IsUnionOver grid.station announced x hi (p + k) (get_or layers.first (p + k) 0)) from first))
  slot_by k lt false e =
      let past = ltb-false (p + k) 60 e in
      let m : ℕ = (p + k) / 60 in
      let s : ℕ = (p + k) % 60 in
      one_set grid.station announced p lo hi (length grid.rows) sets are k m s (get_or layers.rest s 0) lt refl refl
      (two.rest m s (omega arith) (omega (arith, reached, lt)) (omega arith))

  -- they cost what the layers do
  pub layers_cost : layered_cost grid.station (cost_at grid.rows) (length grid.rows) p layers.first layers.rest ≡ unions_cost grid sets
  layers_cost =
      sum_below_same (length grid.rows) (λ k. set_cost grid.station (cost_at grid.rows k) (layered_set p layers.first layers.rest k))
      (λ k. set_cost grid.station (cost_at grid.rows k) (sets k))
      (λ k lt. ap (set_cost grid.station (cost_at grid.rows k)) (slot_by k lt (nat_lt (p + k) 60) refl))
