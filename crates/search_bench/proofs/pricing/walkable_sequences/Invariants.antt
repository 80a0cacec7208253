use Rattle.std.specs.List.{AllByRecursion}
use Rattle.definitions.specs.sequences.Walks.{IsSequence, IsWalkable}
use Rattle.search_bench.proofs.pricing.walkable_sequences.Given as goal

abbrev pub invariant-loop-block : goal.invariant-loop-block
invariant-loop-block l = AllByRecursion IsSequence l.list.items × AllByRecursion (IsWalkable l.case.window) l.list.items
