-- What is found due.
use Rattle.std.specs.Prelude.{ℕ, ◌≡◌, ◌<◌, ◌≤◌, length, Result, Ok, Err}
use Rattle.signal_base.specs.declared.limits.TheConstants.{MOST_SECONDS}
use Rattle.definitions.specs.declared.answer.Answer.{Answer}
use Rattle.definitions.specs.codes.Allowed.{encoded_year}
use Rattle.definitions.specs.sequences.Walks.{IsSequence, IsWalkable}
use Rattle.definitions.specs.time.Calendar.{century_minutes}
use Rattle.formats.specs.declared.words.Asked.{Asked}
use Rattle.trial_log.specs.Trials.{trial_receivers, trial_sequence, trial_station}
use Rattle.texts.specs.Reportable.{IsReportable, NamesSequences}
use Rattle.due.specs.declared.due.Due.{Due}
use Rattle.due.specs.declared.due.Due.TheVariants as dues
use Rattle.due.specs.declared.duts.TheConstants.{MOST_STATIONS}
use Rattle.due.specs.Banks.{Bank, IsBankAnswer, duts_of, window_of}
use Rattle.due.specs.Trials.{trial_asked, trial_bank}
use Rattle.bank.specs.declared.decoding.Decoded.{Decoded}
use Rattle.bank.specs.declared.loading.Unloaded.{Unloaded}
use Rattle.bank.specs.declared.loading.Unloaded.TheVariants.{Failed, NoMemory, Refused}
use Rattle.bank.specs.declared.stop.Stop.{Stop}
use Rattle.bank.specs.declared.stop.Stop.TheVariants as stops

-- the answer for a bank in the window that is asked about, and what its stations tell of DUT1
pub record IsDecoded (asked : Asked) (bank : Bank) (decoded : Decoded) : Type 0 where
  pub window_is : decoded.window ≡ window_of asked bank.receivers
  pub answer_is : IsBankAnswer decoded.window bank decoded.answer
  pub duts_are : decoded.duts ≡ duts_of decoded.window bank decoded.answer

-- the summary of a trial
abbrev pub IsTried : ℕ → Due → Type 0
IsTried number due =
    (answer : Answer) × IsBankAnswer (window_of trial_asked (trial_bank number).receivers) (trial_bank number) answer
    × (due ≡ dues.Trial number (trial_station number) (trial_receivers number) (trial_sequence number) answer)

-- its texts can be written
abbrev pub CanBeWritten : Due → Type 0
CanBeWritten (dues.Refused refusal) = Unit {0}
CanBeWritten (dues.Report window answer duts) = IsReportable window answer × (length duts ≤ MOST_STATIONS)
CanBeWritten (dues.Feed window q) = (window.seconds ≤ MOST_SECONDS) × IsSequence q × IsWalkable window q
CanBeWritten (dues.Listing station minute announced) = (minute < century_minutes) × (encoded_year station minute ≤ 2099)
CanBeWritten (dues.Trial number station receivers sent answer) = IsSequence sent × NamesSequences answer

-- what is told where nothing is loaded
abbrev pub IsToldUnloaded : Unloaded → Result Due Stop → Type 0
IsToldUnloaded (Refused refusal) result = result ≡ Ok (dues.Refused refusal)
IsToldUnloaded Failed result = result ≡ Err stops.Failed
IsToldUnloaded NoMemory result = result ≡ Err stops.NoMemory
