-- The orders that the words give, and the file that is read first.
use Rattle.std.proofs.Common.{refl}
use Rattle.formats.specs.WordExamples.{asked_usually}
use Rattle.due.specs.Loads.{Reads_configuration}
use Rattle.board_due.specs.BoardRules.{Reads_bank}
use Rattle.board_due.specs.Examples.{order_of_q}
use Rattle.board_due.proofs.ExampleLaws.{own_asks, usual_asks}
use Rattle.board_due.proofs.examples.what_is_asked_of_a_board.Goals as goal

pub returns : goal.returns
returns c = record {
  usual = usual_asks;
  own = own_asks;
  read = λ contents. Reads_bank (order_of_q asked_usually 60 10 2) usual_asks (Reads_configuration refl refl);
}
