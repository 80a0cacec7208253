use Rattle.std.proofs.Common.{◌<◌, ℕ, get_or}
use Rattle.slot_columns.specs.declared.split.TheConstants.{SPLITS}
use Rattle.slot_columns.proofs.SplitLaws.{IsChanged}
use Rattle.slot_columns.proofs.columns.SlotColumns.split_costs.Given as goal

abbrev pub invariant-loop-s : goal.invariant-loop-s
invariant-loop-s l = (b : ℕ) → b < SPLITS → IsChanged l.self-inside.slots l.p l.before l.after b l.s (get_or l.costs b 0)
