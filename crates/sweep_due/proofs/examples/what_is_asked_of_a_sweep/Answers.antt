-- The orders that the words give, and the file that is read first.
use Rattle.std.proofs.Common.{None, refl}
use Rattle.formats.specs.WordExamples.{asked, asked_usually}
use Rattle.due.specs.Loads.{Reads_configuration}
use Rattle.sweep_due.specs.Examples.{order_of_k}
use Rattle.sweep_due.specs.SweepRules.{Answered}
use Rattle.sweep_due.proofs.ExampleLaws.{certificates_ask, own_asks, usual_asks}
use Rattle.sweep_due.proofs.examples.what_is_asked_of_a_sweep.Goals as goal

pub returns : goal.returns
returns c = record {
  usual = usual_asks;
  own = own_asks;
  certificates = certificates_ask;
  read = λ contents. (order_of_k asked_usually, usual_asks, Reads_configuration refl refl);
  due = λ contents config records due loaded told. Answered (order_of_k (asked None 120 0 52_596_000)) own_asks config records loaded told;
}
