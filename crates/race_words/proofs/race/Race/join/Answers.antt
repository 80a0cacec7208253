-- The step is a join.
use Rattle.std.proofs.Common.{rules}
use Rattle.race_words.proofs.Steps.{joins_step}
use Rattle.race_words.proofs.race.Race.join.Goals as goal

pub join_seat-requires : goal.join_seat-requires
join_seat-requires c = (
  search rules,
  search rules,
  search rules,
  search rules,
  joins_step _ _ _ c.seat.invariant.1.share c.seat.invariant.1.nothing _ _ c.other.invariant.1.share c.other.invariant.1.nothing,
)
