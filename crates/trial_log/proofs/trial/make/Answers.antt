use Rattle.std.proofs.Common.{ap, ◌∙◌}
use Rattle.definitions.specs.declared.sequence.Sequence.{Sequence}
use Rattle.signal_base.specs.declared.station.Station.{Station}
use Rattle.definitions.specs.heard.Logs.{Records}
use Rattle.trial_log.specs.declared.trial.TheConstants.{TRIAL_SECONDS}
use Rattle.trial_log.specs.Clean.{clean_log, log_text}
use Rattle.trial_log.specs.Trials.{moved, noise_of, trial_records, trial_station}
use Rattle.trial_log.proofs.TrialLaws.{next_log}
use Rattle.trial_log.proofs.trial.make.Goals as goal

pub clean_log-requires : goal.clean_log-requires
clean_log-requires c = c.sequence_of-sequence.ensures.sent c.station_of-station.result

pub loop-receiver-preserved : goal.loop-receiver-preserved
loop-receiver-preserved c =
    let number = c.args.number in
    let receiver = c.loop-receiver.receiver in
    let heard = c.deref.ensures.value ∙ c.in_ok-heard.ensures
    ∙ ap (λ (station : Station). clean_log station c.sequence_of-sequence.result TRIAL_SECONDS) c.station_of-station.ensures
    ∙ ap (λ (q : Sequence). clean_log (trial_station number) q TRIAL_SECONDS) c.sequence_of-sequence.ensures.sequence in
    let text = c.in_ok-noisy_text.ensures ∙ ap (λ (records : Records). log_text (moved (noise_of number receiver) records)) heard in
    next_log _ (λ r. log_text (trial_records number r)) receiver _ _ _ c.loop-receiver.invariant c.in_ok-push.ensures.items text

pub returns-clause-sent : goal.returns-clause-sent
returns-clause-sent c = c.sequence_of-sequence.ensures.sent c.station_of-station.result
