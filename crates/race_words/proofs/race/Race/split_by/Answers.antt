-- The step is a split.
use Rattle.std.proofs.Common.{rules}
use Rattle.race_words.proofs.Steps.{splits_step}
use Rattle.race_words.proofs.race.Race.split_by.Goals as goal

pub split_seat-place-requires : goal.split_seat-place-requires
split_seat-place-requires g c = (
  search rules,
  search rules,
  splits_step _ _ _ c.seat.invariant.1.share c.seat.invariant.1.nothing g.P.Portion.share (search rules) (search rules) (search rules),
)
