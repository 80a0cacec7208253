-- The share that a split gives away.
use Rattle.race_words.proofs.race.Race.split.Given as goal

abbrev pub ghosts-split_by : goal.ghosts-split_by
ghosts-split_by a = record { share = a.share }
