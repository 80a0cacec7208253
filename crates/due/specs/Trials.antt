-- The bank of a trial, and the window that is asked about.
use Rattle.std.specs.Prelude.{ℕ, map, Some, None}
use Rattle.std.specs.List.{range_with_len}
use Rattle.signal_base.specs.Table.{difference_table}
use Rattle.signal_base.specs.declared.limits.TheConstants.{GREATEST_COST}
use Rattle.definitions.specs.time.Calendar.{century_minutes}
use Rattle.definitions.specs.heard.Receivers.{Receiver}
use Rattle.formats.specs.declared.words.Asked.{Asked}
use Rattle.trial_log.specs.declared.trial.TheConstants.{TRIAL_SECONDS}
use Rattle.trial_log.specs.Trials.{trial_receivers, trial_records, trial_station}
use Rattle.due.specs.Banks.{Bank}

-- a receiver, counted from 0: it neither lags nor weighs
abbrev pub trial_receiver : ℕ → ℕ → Receiver
trial_receiver number receiver =
    record {
      station = trial_station number;
      heard = record { tuning = record { delay = 0; weight = 1; table = None }; log = trial_records number receiver };
    }

-- everything is admitted
abbrev pub trial_bank : ℕ → Bank
trial_bank number =
    record {
      receivers = map (trial_receiver number) (range_with_len 0 (trial_receivers number));
      table = difference_table;
      ceiling = GREATEST_COST;
    }

-- all that is heard, in all minutes of the century
abbrev pub trial_asked : Asked
trial_asked = record { start = Some 0; seconds = TRIAL_SECONDS; from = 0; to = century_minutes }
