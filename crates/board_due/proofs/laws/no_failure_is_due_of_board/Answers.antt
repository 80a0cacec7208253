-- The law, from its lemmas.
use Rattle.board_due.proofs.BoardDueLaws.{no_board_failure_is_due}
use Rattle.board_due.proofs.laws.no_failure_is_due_of_board.Goals as goal

pub returns : goal.returns
returns c = record { failed = λ due. (no_board_failure_is_due due).0; memory = λ due. (no_board_failure_is_due due).1 }
