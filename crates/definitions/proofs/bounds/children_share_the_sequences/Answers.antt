-- Children share the sequences.
use Rattle.definitions.proofs.BlockLaws.{children_are_blocks, children_share}
use Rattle.definitions.proofs.ChildLaws.{children_spans, children_lie_within, children_follow, minute_has_none}
use Rattle.definitions.proofs.bounds.children_share_the_sequences.Goals as goal

pub returns-clause-blocks : goal.returns-clause-blocks
returns-clause-blocks c = children_are_blocks

pub returns-clause-spans : goal.returns-clause-spans
returns-clause-spans c = children_spans

pub returns-clause-within : goal.returns-clause-within
returns-clause-within c = children_lie_within

pub returns-clause-in_order : goal.returns-clause-in_order
returns-clause-in_order c = children_follow

pub returns-clause-one : goal.returns-clause-one
returns-clause-one c = children_share

pub returns-clause-minute : goal.returns-clause-minute
returns-clause-minute c = minute_has_none
