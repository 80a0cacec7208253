-- The order that the words give.
use Rattle.std.proofs.Common.{refl}
use Rattle.std.specs.Fmt.{digits}
use Rattle.formats.specs.WordValues.{number_of}
use Rattle.judge_due.specs.JudgeDues.{Bad_bank}
use Rattle.judge_due.proofs.ExampleLaws.{asks, order_of_k}
use Rattle.judge_due.proofs.examples.what_is_asked_of_a_judgement.Goals as goal

pub returns-clause-usual : goal.returns-clause-usual
returns-clause-usual c = asks

pub returns-clause-own : goal.returns-clause-own
unfolding digits number_of
returns-clause-own c = refl

pub returns-clause-refused : goal.returns-clause-refused
returns-clause-refused c = λ contents refusal bad. Bad_bank order_of_k asks refusal bad refl
