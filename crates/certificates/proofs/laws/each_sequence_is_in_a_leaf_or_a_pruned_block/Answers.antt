-- The lines are walks of all items.
use Rattle.signal_base.specs.declared.limits.TheConstants.{GREATEST_COST}
use Rattle.certificates.specs.Certificates.{lines_of}
use Rattle.certificates.specs.Validity.{limit_named}
use Rattle.certificates.proofs.CoverLaws.{lies_in_walks}
use Rattle.certificates.proofs.ValidLaws.{in_century}
use Rattle.certificates.proofs.laws.each_sequence_is_in_a_leaf_or_a_pruned_block.Goals as goal

pub returns : goal.returns
returns c costs window ceiling d q valid legal =
    lies_in_walks costs window (c.blocks_share_the_sequences.ensures costs window GREATEST_COST (in_century costs window ceiling d valid))
    (limit_named ceiling d.head.second) q legal valid.shows.blocks (lines_of d) valid.shows.each valid.shows.walks
