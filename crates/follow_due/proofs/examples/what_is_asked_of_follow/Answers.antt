-- The orders that the words give, and the file that is read first.
use Rattle.std.proofs.Common.{refl}
use Rattle.formats.specs.WordExamples.{asked_usually}
use Rattle.due.specs.Loads.{Reads_configuration}
use Rattle.follow_due.specs.Examples.{order_of_k}
use Rattle.follow_due.proofs.ExampleLaws.{own_asks, usual_asks}
use Rattle.follow_due.proofs.examples.what_is_asked_of_follow.Goals as goal

pub returns : goal.returns
returns c = record {
  usual = usual_asks;
  own = own_asks;
  read = λ contents. (order_of_k asked_usually 60 10, usual_asks, Reads_configuration refl refl);
}
