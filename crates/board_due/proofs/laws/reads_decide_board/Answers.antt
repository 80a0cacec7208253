-- The law, from its lemmas.
use Rattle.board_due.proofs.BoardReadLaws.{same_board_due, same_board_reads}
use Rattle.board_due.proofs.laws.reads_decide_board.Goals as goal

pub returns : goal.returns
returns c = record { due = same_board_due; reads = same_board_reads }
