use Rattle.formats.proofs.ShareLaws.{sequence_law, station_law}
use Rattle.formats.proofs.heard_law.slots_share_the_cost.Goals as goal

pub returns : goal.returns
returns c = record { station = station_law; sequence = sequence_law }
