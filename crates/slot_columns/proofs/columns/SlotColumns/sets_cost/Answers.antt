use Rattle.std.proofs.Common.{◌≡◌, ◌+◌, ◌*◌, ◌<◌, ℕ, List, slice_index, sym, ap, ◌∙◌, arith}
use Rattle.signal_base.specs.declared.limits.TheConstants.{MOST_SECONDS}
use Rattle.definitions.specs.heard.Costs.{set_cost}
use Rattle.definitions.proofs.CostLaws.{sum_below_more, sum_below_none}
use Rattle.symbol_cost.specs.Grid.{Grid, cost_at}
use Rattle.slot_columns.specs.Rows.{index_of}
use Rattle.slot_columns.proofs.SetLaws.{indexed}
use Rattle.slot_columns.proofs.SumLaws.{sum_of_four_more}
use Rattle.slot_columns.proofs.columns.SlotColumns.sets_cost.Goals as goal

-- each slot's index costs what its set does
same_cost : (g : Grid) (sets indexes : List ℕ) → ((k : ℕ) → k < MOST_SECONDS → slice_index indexes k ≡ index_of (slice_index sets k))
    → (k : ℕ) → k < MOST_SECONDS
    → set_cost g.station (cost_at g.rows k) (slice_index indexes k) ≡ set_cost g.station (cost_at g.rows k) (slice_index sets k)
same_cost g sets indexes are k lt =
    ap (set_cost g.station (cost_at g.rows k)) (are k lt) ∙ indexed g.station (cost_at g.rows k) (slice_index sets k)

pub loop-i-init : goal.loop-i-init
loop-i-init c = record { cost = sym (sum_below_none _); bound = omega arith }

pub loop-i-preserved : goal.loop-i-preserved
loop-i-preserved c =
    let g = c.args.self.now in
    let i = c.loop-i.i in
    let f = λ (k : ℕ). set_cost g.station (cost_at g.rows k) (slice_index c.args.sets.now k) in
    let same = same_cost g c.args.sets.now c.indexes_of-indexes.result c.indexes_of-indexes.ensures in
    let within : 4 * i + 3 < MOST_SECONDS = omega arith in
    record {
      cost = omega (
        arith,
        c.loop-i.invariant.cost,
        c.at.ensures.cost,
        c.at-in-loop-i.ensures.cost,
        c.at-in-loop-i-2.ensures.cost,
        c.at-in-loop-i-3.ensures.cost,
        same (4 * i) (omega (arith, within)),
        same (4 * i + 1) (omega (arith, within)),
        same (4 * i + 2) (omega (arith, within)),
        same (4 * i + 3) within,
        sum_of_four_more i f,
      );
      bound = omega (
        arith,
        c.loop-i.invariant.bound,
        c.at.ensures.bound,
        c.at-in-loop-i.ensures.bound,
        c.at-in-loop-i-2.ensures.bound,
        c.at-in-loop-i-3.ensures.bound,
      );
    }

pub loop-slot-preserved : goal.loop-slot-preserved
loop-slot-preserved c =
    let g = c.args.self.now in
    let slot = c.loop-slot.slot in
    let f = λ (k : ℕ). set_cost g.station (cost_at g.rows k) (slice_index c.args.sets.now k) in
    let same = same_cost g c.args.sets.now c.indexes_of-indexes.result c.indexes_of-indexes.ensures slot (omega arith) in
    record {
      cost = omega (arith, c.loop-slot.invariant.cost, c.at-cost.ensures.cost, same, sum_below_more slot f);
      bound = omega (arith, c.loop-slot.invariant.bound, c.at-cost.ensures.bound);
    }
