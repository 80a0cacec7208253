use Rattle.std.proofs.Common.{◌≡◌, ◌*◌, ◌<◌, ◌≤◌, ℕ, length, get_or}
use Rattle.symbol_cost.specs.Grid.{cost_at}
use Rattle.slot_columns.specs.Parts.{minute_cost}
use Rattle.walk_costs.specs.Dates.{given_up, most_in_call}
use Rattle.walk_costs.proofs.DateLaws.{lost_before}
use Rattle.walk_costs.proofs.date.given_costs.Given as goal

abbrev pub invariant-loop-m : goal.invariant-loop-m
invariant-loop-m l = record {
  long : length l.lost ≡ 30;
  done : (m : ℕ) → m < l.m → get_or l.lost m 0 ≡ minute_cost l.columns.station (cost_at l.columns.rows) (length l.columns.rows) l.p m (given_up l.columns.station l.part);
  none : (m : ℕ) → l.m ≤ m → m < 30 → get_or l.lost m 0 ≡ 0;
  sum : l.whole ≡ lost_before l.columns l.p l.part l.m;
  bound : l.whole ≤ l.m * most_in_call;
}
