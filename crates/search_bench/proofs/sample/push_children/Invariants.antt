use Rattle.std.proofs.Common.{◌≡◌, length}
use Rattle.std.specs.List.{AllByRecursion}
use Rattle.definitions.specs.answers.Blocks.{IsBlock}
use Rattle.search_bench.proofs.sample.push_children.Given as goal

abbrev pub invariant-loop-child : goal.invariant-loop-child
invariant-loop-child l = (l.children.tables ≡ l.fn.tables) × AllByRecursion (IsBlock l.fn.tables.window) l.list.items

abbrev pub decreases-loop-child : goal.decreases-loop-child
decreases-loop-child l = length l.children.left
