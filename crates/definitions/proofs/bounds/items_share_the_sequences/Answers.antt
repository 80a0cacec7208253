-- Items share the sequences.
use Rattle.definitions.proofs.BlockLaws.{items_are_blocks, items_share}
use Rattle.definitions.proofs.ItemLaws.{items_are_years, items_rise}
use Rattle.definitions.proofs.bounds.items_share_the_sequences.Goals as goal

pub returns-clause-blocks : goal.returns-clause-blocks
returns-clause-blocks c = items_are_blocks

pub returns-clause-years : goal.returns-clause-years
returns-clause-years c = items_are_years

pub returns-clause-in_order : goal.returns-clause-in_order
returns-clause-in_order c = items_rise

pub returns-clause-one : goal.returns-clause-one
returns-clause-one c = items_share
