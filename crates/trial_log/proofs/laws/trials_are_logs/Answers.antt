use Rattle.std.proofs.Common.{ℕ, ◌+◌, ◌*◌, ◌≤◌, length, arith}
use Rattle.trial_log.specs.declared.trial.TheConstants.{TRIAL_SECONDS}
use Rattle.trial_log.specs.Clean.{clean_log}
use Rattle.trial_log.specs.Trials.{noise_of, trial_records, trial_sequence, trial_station}
use Rattle.trial_log.proofs.LogLaws.{is_log, short_text}
use Rattle.trial_log.proofs.SpacingLaws.{AreSpaced, clean_spaced, closer, few_records, moved_length, moved_spaced}
use Rattle.trial_log.proofs.laws.trials_are_logs.Goals as goal

pub returns-clause-clean : goal.returns-clause-clean
returns-clause-clean c = λ station q n le.
    let spaced = clean_spaced station q n in
    let few = few_records 0 (1000 * n + 100) (clean_log station q n) spaced in
    is_log (clean_log station q n) (1000 * n + 100) (closer 0 (1000 * n + 100) (clean_log station q n) spaced) (omega (arith, le)) (omega (arith, few, le))

-- before this a trial's records stand, where none is moved
abbrev end_of_trial : ℕ
end_of_trial = 1000 * TRIAL_SECONDS + 100

module _ (number receiver : ℕ) where
  heard_spaced : AreSpaced 1 0 (end_of_trial + 20) (trial_records number receiver)
  heard_spaced = moved_spaced (noise_of number receiver) end_of_trial _ (clean_spaced (trial_station number) (trial_sequence number) TRIAL_SECONDS)

  heard_few : length (trial_records number receiver) ≤ 12001
  heard_few =
      let clean = clean_log (trial_station number) (trial_sequence number) TRIAL_SECONDS in
      let few = few_records 0 end_of_trial clean (clean_spaced (trial_station number) (trial_sequence number) TRIAL_SECONDS) in
      omega (arith, few, moved_length (noise_of number receiver) clean)

pub returns-clause-heard : goal.returns-clause-heard
returns-clause-heard c = λ number receiver.
    is_log (trial_records number receiver) (end_of_trial + 20) (heard_spaced number receiver) (omega arith) (omega (arith, heard_few number receiver))

pub returns-clause-fits : goal.returns-clause-fits
returns-clause-fits c = λ number receiver.
    omega (arith, heard_few number receiver, short_text (trial_records number receiver) 0 (end_of_trial + 20) (heard_spaced number receiver) (omega arith))
