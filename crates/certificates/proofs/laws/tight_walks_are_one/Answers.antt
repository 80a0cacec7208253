-- Block by block, from the bound and the limit.
use Rattle.certificates.proofs.TightWalkLaws.{one_walks, tight_walks}
use Rattle.certificates.proofs.laws.tight_walks_are_one.Goals as goal

pub returns-clause-some : goal.returns-clause-some
returns-clause-some c costs window limit blocks century are small =
    tight_walks costs window limit (c.blocks_share_the_sequences.ensures costs window 0 century) (λ b. c.bound_exists.ensures.bound costs window b) small blocks are

pub returns-clause-one : goal.returns-clause-one
returns-clause-one c costs window limit blocks ls ms =
    one_walks costs window limit (λ b. c.bound_is_one.ensures.bound costs window b) ls ms blocks
