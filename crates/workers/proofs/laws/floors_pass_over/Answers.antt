-- The steps of a visit by one read are made span by span.
use Rattle.workers.proofs.Passing.{passes, passing_steps}
use Rattle.workers.proofs.laws.floors_pass_over.Goals as goal

pub returns : goal.returns
returns c costs window ceiling b floor seen century block is_floor above =
    let facts = c.blocks_share_the_sequences.ensures costs window ceiling century in
    (passing_steps costs window ceiling b seen, passes costs window ceiling seen facts b floor block is_floor above)
