use Rattle.std.specs.List.{AllByRecursion}
use Rattle.definitions.specs.answers.Blocks.{IsBlock}
use Rattle.search_bench.proofs.sample.parts.Given as goal

abbrev pub invariant-loop-block : goal.invariant-loop-block
invariant-loop-block l = AllByRecursion (IsBlock l.tables.window) l.list.items
