use Rattle.definitions.specs.answers.Blocks.{IsBlock}
use Rattle.search_bench.proofs.draw.descendant.Given as goal

abbrev pub invariant-loop : goal.invariant-loop
invariant-loop l = IsBlock l.tables.window l.found.block
