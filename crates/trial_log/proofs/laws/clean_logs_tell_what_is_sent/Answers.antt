use Rattle.trial_log.proofs.DutLaws.{tells_dut1_of_zero}
use Rattle.trial_log.proofs.LevelLaws.{tells}
use Rattle.trial_log.proofs.laws.clean_logs_tell_what_is_sent.Goals as goal

pub returns-clause-level : goal.returns-clause-level
returns-clause-level c = tells

pub returns-clause-dut1 : goal.returns-clause-dut1
returns-clause-dut1 c = tells_dut1_of_zero
