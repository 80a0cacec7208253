use Rattle.std.proofs.Common.{◌≡◌, ◌+◌, get_or}
use Rattle.definitions.specs.heard.Costs.{sum_below}
use Rattle.slot_columns.specs.Layered.{term_of_both}
use Rattle.slot_columns.proofs.layered.LayerTable.cost_of_both.Given as goal

abbrev pub invariant-loop-k : goal.invariant-loop-k
invariant-loop-k l = record { spent : l.cost ≡ get_or l.self.common l.p 0 + sum_below l.k (term_of_both l.self l.i l.j l.p) }
