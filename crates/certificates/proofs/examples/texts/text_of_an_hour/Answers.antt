-- The certificate can be written.
use Rattle.std.proofs.Common.{refl, arith}
use Rattle.std.specs.Fmt.{digits}
use Rattle.certificates.proofs.ExampleLaws.{in_range}
use Rattle.certificates.proofs.examples.texts.text_of_an_hour.Goals as goal

pub returns-clause-text : goal.returns-clause-text
unfolding digits
returns-clause-text c = refl

pub returns-clause-is_text : goal.returns-clause-is_text
returns-clause-is_text c = record {
  spelled = record {
    window = in_range 4 700 702 (omega arith) (omega arith) (omega arith) (omega arith);
    ceiling = omega arith;
    first = (omega arith, omega arith);
    second = (omega arith, omega arith);
    some_part = omega arith;
    few_parts = omega arith;
    lines = (
      record { second = omega arith; not_empty = omega arith; century = omega arith; shape = ((λ e. absurd cc), omega arith) },
      (
        record { second = omega arith; not_empty = omega arith; century = omega arith; shape = (refl, omega arith) },
        (record { second = omega arith; not_empty = omega arith; century = omega arith; shape = (refl, omega arith) }, tt),
      ),
    );
  };
  few = omega arith;
  same = refl;
}
