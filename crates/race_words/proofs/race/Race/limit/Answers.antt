-- The step is a look at the second word.
use Rattle.std.proofs.Common.{rules}
use Rattle.race_words.proofs.Steps.{looks_step}
use Rattle.race_words.proofs.race.Race.limit.Goals as goal

pub load-requires : goal.load-requires
load-requires c = (search rules, search rules, looks_step _ _ _ _ c.seat.invariant.1.share c.seat.invariant.1.nothing)
