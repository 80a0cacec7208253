-- The law is proved in `proofs/Soundness.antt`.
use Rattle.race_words.proofs.Soundness.{stays_sound}
use Rattle.race_words.proofs.laws.races_stay_sound.Goals as goal

pub returns : goal.returns
returns c = stays_sound
