-- The parts of the line are put together.
use Rattle.std.proofs.Common.{[]}
use Rattle.texts.proofs.HeardLaws.{receiver_parts}
use Rattle.texts.proofs.heard.push_receiver.Goals as goal

pub returns-clause-bytes : goal.returns-clause-bytes
returns-clause-bytes c =
    receiver_parts _ _ _ _ _ [] c.args.receiver.now c.push.ensures.bytes c.push-2.ensures.bytes c.receiver_head.ensures c.receiver_cost.ensures
