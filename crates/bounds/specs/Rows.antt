-- The children of a block, as contracts see those that are left.
use Rattle.std.specs.Prelude.{List}
use Rattle.definitions.specs.declared.block.Block.{Block}
use Rattle.field_tables.specs.Scored.{Scored}

-- blocks of a window, which are bounded by its tables
pub record Row : Type 0 where
  pub tables : Scored
  pub left : List Block
