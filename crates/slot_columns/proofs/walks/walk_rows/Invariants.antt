use Rattle.std.proofs.Common.{◌≡◌, ◌<◌, ℕ, length}
use Rattle.definitions.specs.time.Calendar.{minutes_per_day}
use Rattle.definitions.specs.heard.Costs.{sum_below}
use Rattle.slot_columns.specs.Days.{day_cost}
use Rattle.slot_columns.specs.Parts.{entry}
use Rattle.slot_columns.proofs.walks.walk_rows.Given as goal

abbrev pub invariant-loop-p : goal.invariant-loop-p
invariant-loop-p l = record {
  count : length l.costs.items ≡ l.p;
  each : (p u : ℕ) → p < l.p → u < minutes_per_day → entry l.costs.items p u ≡ sum_below (length l.slots.rows) (day_cost l.slots l.day-inside.columns.items p u);
}
