use Rattle.clock_board.proofs.Ruling.{looks}
use Rattle.clock_board.proofs.asker.Asker.refresh.Goals as goal

pub enter_as-requires : goal.enter_as-requires
enter_as-requires c x = looks _ _ x
