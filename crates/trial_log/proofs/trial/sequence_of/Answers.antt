use Rattle.std.proofs.Common.{refl, arith}
use Rattle.trial_log.proofs.TrialLaws.{can_be_sent}
use Rattle.trial_log.proofs.trial.sequence_of.Goals as goal

pub returns-clause-sent : goal.returns-clause-sent
returns-clause-sent c = λ station. can_be_sent station _ refl (omega arith) (omega arith)
