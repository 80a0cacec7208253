use Rattle.formats.proofs.ShareLaws.{slot_law}
use Rattle.formats.proofs.heard_law.receivers_share_a_slot.Goals as goal

pub returns : goal.returns
returns c = slot_law
