-- Which statuses are due, and which words are refused although the grammar has them.
use Rattle.std.proofs.Common.{◌≡◌, ◌≢◌, ℕ, List, Ok, refl, ap}
use Rattle.definitions.specs.declared.answer.Answer.{Answer}
use Rattle.definitions.specs.declared.answer.Answer.TheVariants as answers
use Rattle.formats.specs.declared.refusal.Refusal.{Refusal}
use Rattle.formats.specs.declared.refusal.Refusal.TheVariants.{WordsUsage, WordsBad, WordsEmptyRange, ConfigTooLarge, ConfigNotToml, ConfigMissing, ConfigWrongKind, ConfigOutOfRange, ConfigUnknownKey, LogTooLarge, LogLine}
use Rattle.formats.specs.declared.words.Asked.{Asked}
use Rattle.formats.specs.declared.words.WordFault.TheVariants.{Usage}
use Rattle.formats.specs.Orders.{◌>>=◌, order_of}
use Rattle.formats.specs.Orders.Order.{Check}
use Rattle.formats.specs.Words.{run_commands}
use Rattle.due.specs.declared.due.Due.{Due}
use Rattle.due.specs.declared.due.Due.TheVariants.{Refused, Report, Feed, Listing, Trial}
use Rattle.due.specs.declared.status.Status.TheVariants.{Failed, NoMemory}
use Rattle.due.specs.declared.frame_due.FrameDue.{FrameDue}
use Rattle.due.specs.declared.frame_due.FrameDue.TheVariants as frame_dues
use Rattle.due.specs.FrameDues.{frame_status}
use Rattle.due.specs.Dues.{answer_status, refusal_status, status_of}
use Rattle.due.specs.Inputs.{Contents}
use Rattle.due.specs.Orders.{of_run}
use Rattle.due.specs.Rules.{IsDue, Bad_words}

refusal_is_due : (r : Refusal) → (refusal_status r ≢ Failed) × (refusal_status r ≢ NoMemory)
refusal_is_due WordsUsage = (λ e. cc, λ e. cc)
refusal_is_due (WordsBad option) = (λ e. cc, λ e. cc)
refusal_is_due WordsEmptyRange = (λ e. cc, λ e. cc)
refusal_is_due ConfigTooLarge = (λ e. cc, λ e. cc)
refusal_is_due ConfigNotToml = (λ e. cc, λ e. cc)
refusal_is_due (ConfigMissing key receiver) = (λ e. cc, λ e. cc)
refusal_is_due (ConfigWrongKind key receiver) = (λ e. cc, λ e. cc)
refusal_is_due (ConfigOutOfRange key receiver) = (λ e. cc, λ e. cc)
refusal_is_due ConfigUnknownKey = (λ e. cc, λ e. cc)
refusal_is_due (LogTooLarge receiver name) = (λ e. cc, λ e. cc)
refusal_is_due (LogLine receiver name line fault) = (λ e. cc, λ e. cc)

answer_is_due : (a : Answer) → (answer_status a ≢ Failed) × (answer_status a ≢ NoMemory)
answer_is_due answers.Nothing = (λ e. cc, λ e. cc)
answer_is_due (answers.Decided cost q next) = (λ e. cc, λ e. cc)
answer_is_due (answers.Undecided cost q r) = (λ e. cc, λ e. cc)

pub no_failure_is_due : (due : Due) → (status_of due ≢ Failed) × (status_of due ≢ NoMemory)
no_failure_is_due (Refused refusal) = refusal_is_due refusal
no_failure_is_due (Report window answer duts) = answer_is_due answer
no_failure_is_due (Feed window q) = (λ e. cc, λ e. cc)
no_failure_is_due (Listing station minute announced) = (λ e. cc, λ e. cc)
no_failure_is_due (Trial number station receivers sent answer) = answer_is_due answer

pub no_frame_failure_is_due : (due : FrameDue) → (frame_status due ≢ Failed) × (frame_status due ≢ NoMemory)
no_frame_failure_is_due (frame_dues.Told due) = no_failure_is_due due
no_frame_failure_is_due (frame_dues.Frames window q) = (λ e. cc, λ e. cc)
no_frame_failure_is_due (frame_dues.Read frames) = (λ e. cc, λ e. cc)
no_frame_failure_is_due frame_dues.TooLarge = (λ e. cc, λ e. cc)
no_frame_failure_is_due (frame_dues.BadLine line fault) = (λ e. cc, λ e. cc)

-- orders of a check
pub check_is_refused : (words : List (List ℕ)) (contents : Contents) (config certificate : List ℕ) (asked : Asked)
    → order_of run_commands words ≡ Ok (Check config certificate asked) → IsDue words contents (Refused WordsUsage)
check_is_refused words contents config certificate asked e = Bad_words Usage (ap (λ c. c >>= of_run) e) refl
