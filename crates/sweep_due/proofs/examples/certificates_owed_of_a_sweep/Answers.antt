-- What the words ask is computed.
use Rattle.std.proofs.Common.{codes, refl}
use Rattle.std.specs.Fmt.{digits}
use Rattle.formats.specs.WordExamples.{asked_usually}
use Rattle.formats.specs.WordValues.{number_of}
use Rattle.sweep_due.specs.Examples.{order_of_k}
use Rattle.sweep_due.specs.SweepCertificates.{Not_asked, Not_loaded, Written}
use Rattle.sweep_due.specs.SweepRules.{Bad_bank}
use Rattle.sweep_due.proofs.ExampleLaws.{certificates_ask, files_ask}
use Rattle.sweep_due.proofs.examples.certificates_owed_of_a_sweep.Goals as goal

pub returns-clause-none : goal.returns-clause-none
unfolding digits number_of
returns-clause-none c = λ contents. Not_asked refl refl

pub returns-clause-refused : goal.returns-clause-refused
returns-clause-refused c = λ contents refusal bad. record {
  due_is = Bad_bank (order_of_k asked_usually) certificates_ask refusal bad refl;
  certificates_are = Not_loaded (record { config = codes "k.toml"; asked = asked_usually; workers = 4; name = codes "s" }) files_ask refusal bad refl;
}

pub returns-clause-written : goal.returns-clause-written
unfolding digits number_of
returns-clause-written c =
    λ contents config records cs loaded are. Written (record { config = codes "k.toml"; asked = asked_usually; workers = 2; name = codes "s" }) refl config records loaded cs are refl

pub returns-clause-outputs : goal.returns-clause-outputs
unfolding digits number_of
returns-clause-outputs c = λ c d e f g h due. refl
