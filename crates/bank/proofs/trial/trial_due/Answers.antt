-- The answer for a trial's bank is summed up.
use Rattle.bank.specs.Hearing.{bank_seen}
use Rattle.bank.proofs.RunLaws.{tried}
use Rattle.bank.proofs.trial.trial_due.Goals as goal

pub returns-clause-due : goal.returns-clause-due
returns-clause-due g c =
    let t = c.in_ok-trial in
    tried c.args.number c.asked_of_trials.result (bank_seen c.in_ok-bank.bank) c.in_ok-decoded.decoded t.trial.station t.trial.receivers t.trial.sequence
    c.asked_of_trials.ensures.asked c.in_ok-bank.ensures.bank c.in_ok-decoded.ensures.decoded t.ensures.station t.ensures.receivers t.ensures.sequence
