-- What a run reports of a bank or a trial, and which statuses are due.
use Rattle.std.proofs.Common.{◌≡◌, ℕ, ◌≤◌, refl, ap, ◌∙◌, subst, arith}
use Rattle.signal_base.specs.declared.station.Station.{Station}
use Rattle.definitions.specs.declared.answer.Answer.TheVariants as answers
use Rattle.definitions.specs.declared.sequence.Sequence.{Sequence}
use Rattle.formats.specs.declared.refusal.Refusal.{Refusal}
use Rattle.formats.specs.declared.refusal.Refusal.TheVariants.{WordsUsage, WordsBad, WordsEmptyRange, ConfigTooLarge, ConfigNotToml, ConfigMissing, ConfigWrongKind, ConfigOutOfRange, ConfigUnknownKey, LogTooLarge, LogLine}
use Rattle.formats.specs.declared.words.Asked.{Asked}
use Rattle.trial_log.specs.Trials.{trial_receivers, trial_sequence, trial_station}
use Rattle.due.specs.declared.due.Due.{Due}
use Rattle.due.specs.declared.due.Due.TheVariants as dues
use Rattle.due.specs.Banks.{Bank, IsBankAnswer, window_of}
use Rattle.due.specs.Dues.{refusal_status, status_of}
use Rattle.due.specs.Orders.{BankOrder}
use Rattle.due.specs.Rules.{IsReported, reported}
use Rattle.due.specs.Status.{code_of}
use Rattle.due.specs.Trials.{trial_asked, trial_bank}
use Rattle.bank.specs.declared.decoding.Decoded.{Decoded}
use Rattle.bank.specs.Finding.{IsTried, IsDecoded}
use Rattle.bank.proofs.EndingLaws.{IsNoFailure}

-- the answer for a bank, reported as it is asked for
pub decoded_reported : (o : BankOrder) (bank seen : Bank) (decoded : Decoded) (due : Due) → seen ≡ bank → IsDecoded o.asked seen decoded
    → due ≡ reported o.wanted decoded.window seen decoded.answer → IsReported o bank due
decoded_reported o bank seen decoded due same is e =
    subst (λ (b : Bank). IsReported o b due) same
    (decoded.answer, subst (λ w. IsBankAnswer w seen decoded.answer) is.window_is is.answer_is, e ∙ ap (λ w. reported o.wanted w seen decoded.answer) is.window_is)

-- the summary of a trial
pub tried : (number : ℕ) (asked : Asked) (bank : Bank) (decoded : Decoded) (station : Station) (receivers : ℕ) (sent : Sequence) → asked ≡ trial_asked → bank ≡ trial_bank number
    → IsDecoded asked bank decoded → station ≡ trial_station number → receivers ≡ trial_receivers number → sent ≡ trial_sequence number
    → IsTried number (dues.Trial number station receivers sent decoded.answer)
tried number asked bank decoded station receivers sent e f is g h i = (
  decoded.answer,
  subst (λ (b : Bank). IsBankAnswer (window_of trial_asked b.receivers) b decoded.answer) f
      (subst (λ w. IsBankAnswer w bank decoded.answer) (is.window_is ∙ ap (λ (a : Asked). window_of a bank.receivers) e) is.answer_is),
  rw (g, h, i) refl,
)

refusal_below : (refusal : Refusal) → code_of (refusal_status refusal) ≤ 5
refusal_below WordsUsage = omega arith
refusal_below (WordsBad option) = omega arith
refusal_below WordsEmptyRange = omega arith
refusal_below ConfigTooLarge = omega arith
refusal_below ConfigNotToml = omega arith
refusal_below (ConfigMissing key receiver) = omega arith
refusal_below (ConfigWrongKind key receiver) = omega arith
refusal_below (ConfigOutOfRange key receiver) = omega arith
refusal_below ConfigUnknownKey = omega arith
refusal_below (LogTooLarge receiver name) = omega arith
refusal_below (LogLine receiver name line fault) = omega arith

-- no due status is one of a failure
due_below : (due : Due) → code_of (status_of due) ≤ 5
due_below (dues.Refused refusal) = refusal_below refusal
due_below (dues.Report window (answers.Decided c q next) duts) = omega arith
due_below (dues.Report window (answers.Undecided c q r) duts) = omega arith
due_below (dues.Report window answers.Nothing duts) = omega arith
due_below (dues.Feed window q) = omega arith
due_below (dues.Listing station minute announced) = omega arith
due_below (dues.Trial number station receivers sent (answers.Decided c q next)) = omega arith
due_below (dues.Trial number station receivers sent (answers.Undecided c q r)) = omega arith
due_below (dues.Trial number station receivers sent answers.Nothing) = omega arith

pub is_no_failure : (due : Due) → IsNoFailure (status_of due)
is_no_failure due = (λ six. omega (arith, six, due_below due), λ seven. omega (arith, seven, due_below due))
