use Rattle.std.proofs.Common.{◌≡◌, min, get_or}
use Rattle.symbol_cost.proofs.CountLaws.{least_first}
use Rattle.symbol_cost.proofs.second.least_of.Given as goal

abbrev pub invariant-loop-y : goal.invariant-loop-y
invariant-loop-y l = record { least : l.least ≡ least_first (λ y. min l.most (get_or l.costs y 0)) l.y }
