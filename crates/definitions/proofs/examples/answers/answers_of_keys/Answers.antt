-- Answers of keys.
use Rattle.std.proofs.Common.{refl}
use Rattle.definitions.proofs.examples.answers.answers_of_keys.Goals as goal

pub returns-clause-decided : goal.returns-clause-decided
returns-clause-decided c = refl

pub returns-clause-tie : goal.returns-clause-tie
returns-clause-tie c = refl

pub returns-clause-alone : goal.returns-clause-alone
returns-clause-alone c = refl

pub returns-clause-none : goal.returns-clause-none
returns-clause-none c = refl
