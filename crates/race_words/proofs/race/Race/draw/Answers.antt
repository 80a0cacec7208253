-- The step is a draw.
use Rattle.std.proofs.Common.{rules}
use Rattle.race_words.proofs.Steps.{draws_step}
use Rattle.race_words.proofs.race.Race.draw.Goals as goal

pub fetch_add-requires : goal.fetch_add-requires
fetch_add-requires c = (
  search rules,
  search rules,
  draws_step _ _ _ _ c.seat.invariant.1.share c.self.invariant.2 (search rules),
)
