-- JJY's call sign.
use Rattle.std.proofs.Common.{refl}
use Rattle.definitions.specs.time.Calendar.{day_at}
use Rattle.definitions.proofs.examples.telegrams.jjy_with_its_call_sign.Goals as goal

pub returns-clause-sent : goal.returns-clause-sent
unfolding day_at
returns-clause-sent c = refl

pub returns-clause-minutes : goal.returns-clause-minutes
unfolding day_at
returns-clause-minutes c = refl

pub returns-clause-not_sent : goal.returns-clause-not_sent
unfolding day_at
returns-clause-not_sent c = refl
