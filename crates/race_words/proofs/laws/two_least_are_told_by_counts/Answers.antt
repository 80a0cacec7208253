-- The law is proved in `proofs/Counted.antt`.
use Rattle.race_words.proofs.Counted.{least_two_law}
use Rattle.race_words.proofs.laws.two_least_are_told_by_counts.Goals as goal

pub returns : goal.returns
returns c = least_two_law
