-- The entries of the blocks so far.
use Rattle.std.proofs.Common.{take}
use Rattle.field_tables.specs.Scored.{costs_of}
use Rattle.bounds.specs.Ranking.{AreEntries}
use Rattle.bounds.proofs.ranking.entries.Given as goal

abbrev pub invariant-loop-block : goal.invariant-loop-block
invariant-loop-block l = AreEntries (costs_of l.tables) l.tables.window (take l.block-index l.blocks) l.list.items
