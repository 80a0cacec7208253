-- Sums over the stations of a window.
use Rattle.std.proofs.Common.{◌≡◌, ℕ, ◌+◌, ◌*◌, ◌<◌, ◌≤◌, Bool, List, slice_index, true, length, sum_by, take, get_or, refl, sym, ap, ◌∙◌, subst, arith}
use Rattle.std.proofs.Math.ListN.{get_or-map}
use Rattle.std.proofs.lemmas.List.{length-map, take_all}
use Rattle.std.proofs.lemmas.List.Sums.{sum_by-take-le, sum_by_more}
use Rattle.signal_base.specs.declared.limits.TheConstants.{GREATEST_COST}
use Rattle.signal_base.specs.declared.station.Station.{Station}
use Rattle.definitions.specs.declared.block.Block.{Block}
use Rattle.definitions.specs.answers.Blocks.{IsUnion}
use Rattle.definitions.specs.heard.Costs.{set_cost, sum_below}
use Rattle.definitions.proofs.BoundLaws.{unions_one}
use Rattle.definitions.proofs.CostLaws.{sum_below_same}
use Rattle.minute_parts.specs.Unions.{AreRegular}
use Rattle.block_costs.specs.Blocks.{AreUnionsOfWalks, unions_cost}
use Rattle.plain_costs.specs.Unions.{AreUnions}
use Rattle.field_tables.specs.Blocks.{AreUnionsOver}
use Rattle.field_tables.proofs.UnionBoundLaws.{four_stations, some_station}
use Rattle.definitions.specs.codes.Allowed.{has_station, stations_of}
use Rattle.symbol_cost.specs.Grid.{Grid, cost_at}
use Rattle.symbol_cost.specs.declared.limits.TheConstants.{RECEIVER_COST}
use Rattle.slot_columns.specs.Parts.{most_cost}
use Rattle.plain_costs.specs.Grids.{grid_costs}
use Rattle.plain_costs.proofs.GridLaws.{heard_at, sum_by_station}
use Rattle.plain_costs.proofs.WalkLaws.{few_slots, more_receivers}
use Rattle.minute_parts.specs.Walks.{later_minutes}
use Rattle.walk_costs.specs.Walks.{PricedParts}
use Rattle.field_tables.specs.Sums.{AreSums, Sums, grids_of}

abbrev pub receivers : Grid → ℕ
receivers g = g.receivers

-- a sum over the first stations is within what their receivers can make of the slots
abbrev pub IsWithin : Sums → ℕ → ℕ → Type 0
IsWithin sums i total = total ≤ sums.window.seconds * (sum_by receivers (take i (grids_of sums.stations)) * RECEIVER_COST)

-- and so is what is less
pub within_less : (sums : Sums) (i less total : ℕ) → less ≤ total → IsWithin sums i total → IsWithin sums i less
within_less sums i less total le within = omega (arith, le, within)

module _ (sums : Sums) (are : AreSums sums) where
  as_long : length (grids_of sums.stations) ≡ length sums.stations
  as_long = length-map sums.stations (λ (v : PricedParts). v.grid)

  pub small : (i total : ℕ) → IsWithin sums i total → total ≤ GREATEST_COST
  small i total within =
      let some = sum_by-take-le receivers (grids_of sums.stations) i in
      let most = few_slots sums.window.seconds (sum_by receivers (take i (grids_of sums.stations))) are.window.not_long (omega (arith, some, are.grids.few)) in
      omega (arith, within, most)

  -- a sum over all of them is one over the window's stations
  pub whole : (F : Station → (ℕ → ℕ → ℕ) → ℕ) (i total : ℕ) → length sums.stations ≤ i
      → total ≡ sum_by (λ (g : Grid). F g.station (cost_at g.rows)) (take i (grids_of sums.stations))
      → total ≡ sum_by (λ s. F s (grid_costs (grids_of sums.stations) s)) (stations_of sums.window.stations)
  whole F i total past is =
      is ∙ ap (sum_by (λ (g : Grid). F g.station (cost_at g.rows))) (take_all i (grids_of sums.stations) (omega (arith, past, as_long)))
      ∙ sum_by_station sums.window (grids_of sums.stations) are.grids F

  module _ (i : ℕ) (w : PricedParts) (lt : i < length sums.stations) (is : w ≡ get_or sums.stations i w) where
    its_grid : w.grid ≡ get_or (grids_of sums.stations) i w.grid
    its_grid = ap (λ (v : PricedParts). v.grid) is ∙ sym (get_or-map (λ (v : PricedParts). v.grid) sums.stations i w)

    within_grids : i < length (grids_of sums.stations)
    within_grids = omega (arith, lt, as_long)

    pub slots : length w.grid.rows ≡ sums.window.seconds
    slots = ap (λ (g : Grid). length g.rows) its_grid ∙ are.grids.slots i w.grid within_grids

    pub heard : has_station sums.window.stations w.grid.station ≡ true
    heard = ap (λ (g : Grid). has_station sums.window.stations g.station) its_grid ∙ heard_at sums.window (grids_of sums.stations) are.grids i w.grid within_grids

    pub next : (F : Grid → ℕ) (total cost : ℕ) → total ≡ sum_by F (take i (grids_of sums.stations)) → cost ≡ F w.grid
        → total + cost ≡ sum_by F (take (i + 1) (grids_of sums.stations))
    next F total cost before here =
        let more = sum_by_more F (grids_of sums.stations) i w.grid within_grids in
        let price : F w.grid ≡ F (get_or (grids_of sums.stations) i w.grid) = ap F its_grid in
        omega (arith, more, price, before, here)

    -- what isn't above a sum goes on not to be above it
    pub next_less : (F : Grid → ℕ) (total cost : ℕ) → total ≤ sum_by F (take i (grids_of sums.stations)) → cost ≤ F w.grid
        → total + cost ≤ sum_by F (take (i + 1) (grids_of sums.stations))
    next_less F total cost before here =
        let more = next F (sum_by F (take i (grids_of sums.stations))) (F w.grid) refl refl in
        omega (arith, more, before, here)

    pub next_within : (total cost : ℕ) → IsWithin sums i total → cost ≤ most_cost w.grid → IsWithin sums (i + 1) (total + cost)
    next_within total cost before here =
        let all = sum_by_more receivers (grids_of sums.stations) i w.grid within_grids ∙ ap (λ r. sum_by receivers (take i (grids_of sums.stations)) + r) (sym (ap receivers its_grid)) in
        let few : cost ≤ sums.window.seconds * (w.grid.receivers * RECEIVER_COST) = subst (λ n. cost ≤ n * (w.grid.receivers * RECEIVER_COST)) slots here in
        more_receivers sums.window.seconds (sum_by receivers (take i (grids_of sums.stations))) w.grid.receivers _ total cost all before few

    pub own_station : w.parts.station ≡ w.grid.station
    own_station = subst (λ (v : PricedParts). v.parts.station ≡ v.grid.station) (sym is) (are.parts i w lt)

    -- the minutes of a block's walks are regular for each station
    pub regular : (announced : Bool) (p lo hi : ℕ) → AreRegular announced lo (hi + later_minutes sums.window.seconds p) sums.end
        → AreRegular announced lo (hi + later_minutes (length w.grid.rows) p) w.parts.end
    regular announced p lo hi are_so =
        let within : sums.end ≤ w.parts.end = subst (λ (v : PricedParts). sums.end ≤ v.parts.end) (sym is) (are.within i w lt) in
        subst (λ n. AreRegular announced lo (hi + later_minutes n p) w.parts.end) (sym slots)
        (record { early = omega (arith, are_so.early, within); short = are_so.short })

    -- unions for each station are those of its walks
    pub of_walks : (b : Block) (hi : ℕ) (unions : Station → ℕ → ℕ) → AreUnionsOver sums.window b hi unions
        → AreUnionsOfWalks w.grid.station b.announced b.second b.lo hi (length w.grid.rows) (unions w.grid.station)
    of_walks b hi unions over = λ k less. over w.grid.station k heard (omega (arith, less, slots))

    -- sets cost the station this over the window's slots
    pub price_of : (sets : ℕ → ℕ) (cost : ℕ) → cost ≡ unions_cost w.grid sets
        → cost ≡ sum_below sums.window.seconds (λ k. set_cost w.grid.station (cost_at w.grid.rows k) (sets k))
    price_of sets cost e = e ∙ ap (λ n. sum_below n (λ k. set_cost w.grid.station (cost_at w.grid.rows k) (sets k))) slots

    -- what unions cost that are the sets found
    pub price_found : (b : Block) (unions : Station → ℕ → ℕ) (sets : List ℕ) (cost : ℕ) → AreUnions sums.window b unions
        → ((k : ℕ) → k < sums.window.seconds → IsUnion sums.window b w.grid.station k (slice_index sets k))
        → cost ≡ unions_cost w.grid (slice_index sets)
        → cost ≡ sum_below sums.window.seconds (λ k. set_cost w.grid.station (cost_at w.grid.rows k) (unions w.grid.station k))
    price_found b unions sets cost each found e =
        price_of (slice_index sets) cost e
        ∙ sum_below_same sums.window.seconds _ _ (λ k less.
        ap (set_cost w.grid.station (cost_at w.grid.rows k))
        (unions_one sums.window b w.grid.station k (slice_index sets k) (unions w.grid.station k) (found k less) (each w.grid.station k heard less)))

-- there is a station
pub some_of_them : (sums : Sums) → AreSums sums → 0 < length sums.stations
some_of_them sums are =
    let some = some_station sums.window are.window in
    let same = ap length are.grids.stations in
    let as_many = length-map (grids_of sums.stations) (λ (g : Grid). g.station) in
    omega (arith, some, same, as_many, as_long sums are)

-- and there are four at the most
pub few_of_them : (sums : Sums) → AreSums sums → length sums.stations ≤ 4
few_of_them sums are =
    let few = four_stations sums.window are.window in
    let same = ap length are.grids.stations in
    let as_many = length-map (grids_of sums.stations) (λ (g : Grid). g.station) in
    omega (arith, few, same, as_many, as_long sums are)
