use Rattle.std.proofs.Common.{◌≡◌, ◌≤◌, ℕ, get_or}
use Rattle.definitions.specs.heard.Costs.{sum_below}
use Rattle.slot_columns.proofs.ChangeLaws.{lesser_second}
use Rattle.slot_columns.proofs.columns.SlotColumns.least_of_change.Given as goal

abbrev pub invariant-loop-s : goal.invariant-loop-s
invariant-loop-s l = (b : ℕ) → 1 ≤ b → b ≤ l.minutes → get_or l.costs b 0 ≡ sum_below l.s (lesser_second l.self l.p l.one l.other b)
