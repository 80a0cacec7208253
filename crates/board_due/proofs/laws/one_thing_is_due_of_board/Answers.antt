-- The law, from its lemmas.
use Rattle.board_due.proofs.BoardDueLaws.{counts_are_free, one_board_due, one_board_due_by, some_board_due}
use Rattle.board_due.proofs.laws.one_thing_is_due_of_board.Goals as goal

pub returns : goal.returns
returns c = record {
  some = λ words contents. some_board_due contents words;
  one = λ words contents. one_board_due contents words;
  one_by = λ words contents live. one_board_due_by contents words live;
  any = λ words contents o entries queries counts others asks due may. (counts_are_free contents words o entries queries counts others asks due).1 may;
  counted = λ words contents o entries queries counts asks due. (counts_are_free contents words o entries queries counts counts asks due).0;
}
