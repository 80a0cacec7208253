-- That no walk costs less than what holds its dates and the least of its kind.
use Rattle.std.proofs.Common.{◌≡◌, ℕ, ◌+◌, ◌%◌, ◌<◌, ◌≤◌, Bool, List, length, refl, arith}
use Rattle.minute_parts.specs.Parts.{part_where}
use Rattle.minute_parts.specs.Runs.{run_at}
use Rattle.slot_columns.specs.Parts.{entry, most_cost}
use Rattle.walk_costs.specs.declared.least.LeastTable.{LeastTable}
use Rattle.walk_costs.specs.Dates.{date_cost, minutes_to_call}
use Rattle.walk_costs.specs.Kinds.{IsBegin, end_in, last_begin}
use Rattle.walk_costs.specs.Leasts.{AreLeast, begin_count, least_at}
use Rattle.walk_costs.specs.Walks.{ArePriced, IsRegularIn, MayAdd, PricedParts, cost_of}
use Rattle.walk_costs.proofs.NeighbourLaws.{least_with}
use Rattle.walk_costs.proofs.WalkLaws.{total_at, with_dut1}

module _ (w : PricedParts) (costs : List (List ℕ)) (more : List ℕ) (priced : ArePriced w.parts w.grid costs more) (across announced : Bool) (p i : ℕ)
    (second : p < 60) (is_run : i < length w.parts.runs) (is_end : end_in across i < length w.parts.runs) (table : LeastTable)
    (least : AreLeast w.parts w.grid across table) where
  pub no_more : (dates u : ℕ) → u < 1440 → IsBegin (begin_count (length w.grid.rows) across p) (last_begin w.parts across i) u
      → dates + least_at table announced p i ≤ least_with w costs more priced announced p i (end_in across i) second is_run is_end dates u
  no_more dates u day begin = omega (arith, least.each announced i p u is_end second day begin)

-- a walk in one run costs no less than its time of day and its date, with what DUT1 may add
pub at_least : (w : PricedParts) (costs : List (List ℕ)) (more : List ℕ) (priced : ArePriced w.parts w.grid costs more) (announced : Bool) (p t0 i u : ℕ)
    → IsRegularIn w announced p t0 i → u ≡ (t0 + (run_at w.parts.runs i).shift) % 1440 → (added : ℕ) → MayAdd w p t0 added
    → (entry costs p u + date_cost w.grid p (minutes_to_call u) (part_where announced (run_at w.parts.runs i)) + added ≤ cost_of w announced p t0)
    × (cost_of w announced p t0 ≤ most_cost w.grid)
at_least w costs more priced announced p t0 i u regular time =
    let walk : ℕ = entry costs p u in
    let date : ℕ = date_cost w.grid p (minutes_to_call u) (part_where announced (run_at w.parts.runs i)) in
    with_dut1 w costs more priced p t0 (walk + date) (cost_of w announced p t0) (most_cost w.grid) regular.second
    (λ added once twice.
    let total = total_at w costs more priced announced p t0 i regular u (minutes_to_call u) walk date added time refl
    (priced.walks.each p u regular.second (omega (arith, time))) refl once twice in
    (omega (arith, total.cost), omega (arith, total.cost, total.bound)))
