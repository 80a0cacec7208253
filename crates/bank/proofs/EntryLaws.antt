-- Receivers with their logs, put in the order of stations: what contracts see of them, and the bank that they are.
use Rattle.std.proofs.Common.{◌≡◌, ℕ, suc, List, [], ◌∷◌, length, map, refl, ap, ◌∙◌, subst}
use Rattle.std.specs.List.{zip}
use Rattle.std.specs.List.Sorted.{IsPermutation}
use Rattle.std.proofs.lemmas.List.Sorted.{IsPermutation-map}
use Rattle.std.proofs.lemmas.Slice.Zip.{firsts-zip}
use Rattle.definitions.specs.declared.answer.Answer.{Answer}
use Rattle.definitions.specs.declared.answer.Answer.TheVariants as answers
use Rattle.definitions.specs.codes.Allowed.{stations_of}
use Rattle.definitions.specs.answers.Answers.{IsWindowAnswer}
use Rattle.definitions.specs.heard.Costs.{Costs, dut_of}
use Rattle.definitions.specs.heard.Logs.{Records}
use Rattle.definitions.specs.heard.Receivers.{Receiver}
use Rattle.signal_base.specs.declared.window.Window.{Window}
use Rattle.formats.specs.declared.words.Asked.{Asked}
use Rattle.bank_config.specs.declared.config.Receiver.{Receiver as Entry}
use Rattle.bank_config.specs.Configuration.{PlainConfig, PlainReceiver, plain_receiver}
use Rattle.due.specs.declared.due.Due.{Due}
use Rattle.due.specs.declared.due.Due.TheVariants as dues
use Rattle.due.specs.Banks.{Bank, IsBankAnswer, bank_of, by_station, duts_of, ordered, receivers_of, window_of}
use Rattle.due.specs.Orders.{BankOrder, Report, Sentences, Wanted}
use Rattle.due.specs.Rules.{IsReported, reported}
use Rattle.due.proofs.StationLaws.{same_costs, same_window}
use Rattle.bank.specs.Order.{IsInOrder, entries_in_order, in_station_order}
use Rattle.bank.proofs.OrderLaws.{map_in_order}

-- what contracts see of a pair
abbrev plain_pair : Entry × Records → PlainReceiver × Records
plain_pair e = (plain_receiver e.0, e.1)

plain_pairs : (rs : List Entry) (logs : List Records) → map plain_pair (zip rs logs) ≡ zip (map plain_receiver rs) logs
plain_pairs [] logs = refl
plain_pairs (r ∷ rs) [] = refl
plain_pairs (r ∷ rs) (log ∷ logs) = ap (λ es. plain_pair (r, log) ∷ es) (plain_pairs rs logs)

in_order : (rs : List Entry) (logs : List Records) → map plain_pair (in_station_order (λ e. e.0.station) (zip rs logs)) ≡ in_station_order (λ e. e.0.station) (zip (map plain_receiver rs) logs)
in_order rs logs = map_in_order plain_pair (λ e. e.0.station) (zip rs logs) ∙ ap (in_station_order (λ e. e.0.station)) (plain_pairs rs logs)

plain_firsts : (es : List (Entry × Records)) → map plain_receiver (map (λ e. e.0) es) ≡ map (λ e. e.0) (map plain_pair es)
plain_firsts [] = refl
plain_firsts (e ∷ es) = ap (λ rs. plain_receiver e.0 ∷ rs) (plain_firsts es)

plain_seconds : (es : List (Entry × Records)) → map (λ e. e.1) es ≡ map (λ e. e.1) (map plain_pair es)
plain_seconds [] = refl
plain_seconds (e ∷ es) = ap (λ logs. e.1 ∷ logs) (plain_seconds es)

module _ (rs : List Entry) (logs : List Records) (es : List (Entry × Records)) (is : es ≡ in_station_order (λ e. e.0.station) (zip rs logs)) where
  pub receivers_in_order : map plain_receiver (map (λ e. e.0) es) ≡ map (λ e. e.0) (in_station_order (λ e. e.0.station) (zip (map plain_receiver rs) logs))
  receivers_in_order = plain_firsts es ∙ ap (λ ps. map (λ e. e.0) (map plain_pair ps)) is ∙ ap (map (λ e. e.0)) (in_order rs logs)

  pub logs_in_order : map (λ e. e.1) es ≡ map (λ e. e.1) (in_station_order (λ e. e.0.station) (zip (map plain_receiver rs) logs))
  logs_in_order = plain_seconds es ∙ ap (λ ps. map (λ e. e.1) (map plain_pair ps)) is ∙ ap (map (λ e. e.1)) (in_order rs logs)

-- one log for each receiver
pub one_each : {A B : Type 0} (es : List (A × B)) → length (map (λ (e : A × B). e.1) es) ≡ length (map (λ (e : A × B). e.0) es)
one_each [] = refl
one_each (e ∷ es) = ap suc (one_each es)

-- the receivers of pairs that were moved about are the same in another order
pub same_receivers : (rs : List Entry) (logs : List Records) (pairs moved : List (Entry × Records)) → length logs ≡ length rs → pairs ≡ zip rs logs → IsPermutation pairs moved
    → IsPermutation rs (map (λ e. e.0) moved)
same_receivers rs logs pairs moved each is moves =
    subst (λ xs. IsPermutation xs (map (λ e. e.0) moved)) (ap (map (λ e. e.0)) is ∙ firsts-zip rs logs each) (IsPermutation-map (λ e. e.0) pairs moved moves)

-- a receiver that is scored
abbrev heard_by : PlainReceiver × Records → Receiver
heard_by e = record { station = e.0.station; heard = record { tuning = e.0.tuning; log = e.1 } }

heard_pairs : (es : List (PlainReceiver × Records)) → receivers_of (map (λ e. e.0) es) (map (λ e. e.1) es) ≡ map heard_by es
heard_pairs [] = refl
heard_pairs (e ∷ es) = ap (λ rs. heard_by e ∷ rs) (heard_pairs es)

heard_zip : (rs : List PlainReceiver) (logs : List Records) → map heard_by (zip rs logs) ≡ receivers_of rs logs
heard_zip [] logs = refl
heard_zip (r ∷ rs) [] = refl
heard_zip (r ∷ rs) (log ∷ logs) = ap (λ hs. heard_by (r, log) ∷ hs) (heard_zip rs logs)

-- the bank of what was put in order is the bank in order
pub bank_in_order : (config : PlainConfig) (logs : List Records) (config_in_order : PlainConfig) (logs_in_order : List Records)
    → IsInOrder config logs config_in_order logs_in_order → bank_of config_in_order logs_in_order ≡ ordered (bank_of config logs)
bank_in_order config logs other others is =
    let heard : receivers_of other.receivers others ≡ by_station (receivers_of config.receivers logs) =
    rw (is.receivers_are, is.logs_are) (heard_pairs (entries_in_order config logs) ∙ map_in_order heard_by (λ r. r.station) (zip config.receivers logs) ∙ ap by_station (heard_zip config.receivers logs)) in
    same_bank heard is.costs_are is.ceiling_is
  where
    same_bank : {rs ss : List Receiver} {t u : _} {m n : ℕ} → rs ≡ ss → t ≡ u → m ≡ n
        → ◌≡◌ {A = Bank} (record { receivers = rs; table = t; ceiling = m }) (record { receivers = ss; table = u; ceiling = n })
    same_bank e f g = cc

-- what is reported of it is reported of the bank
pub same_duts : (window : Window) (bank : Bank) (answer : Answer) → duts_of window (ordered bank) answer ≡ duts_of window bank answer
same_duts window bank answers.Nothing = refl
same_duts window bank (answers.Decided cost q next) = ap (λ (costs : Costs). map (λ station. record { station = station; dut = dut_of station (costs station) window.seconds q }) (stations_of window.stations)) (same_costs window bank)
same_duts window bank (answers.Undecided cost q r) = refl

same_report : (wanted : Wanted) (window : Window) (bank : Bank) (answer : Answer) → reported wanted window (ordered bank) answer ≡ reported wanted window bank answer
same_report Sentences window bank answers.Nothing = refl
same_report Sentences window bank (answers.Decided cost q next) = refl
same_report Sentences window bank (answers.Undecided cost q r) = refl
same_report (Report certificate) window bank answer = ap (λ duts. dues.Report window answer duts) (same_duts window bank answer)

-- the answer for it is the bank's
pub answer_in_order : (asked : Asked) (bank : Bank) (answer : Answer) → IsBankAnswer (window_of asked (ordered bank).receivers) (ordered bank) answer
    → IsBankAnswer (window_of asked bank.receivers) bank answer
answer_in_order asked bank answer is =
    subst (λ (costs : Costs). IsWindowAnswer (window_of asked bank.receivers) costs bank.ceiling answer) (same_costs (window_of asked bank.receivers) bank)
    (subst (λ (w : Window). IsBankAnswer w (ordered bank) answer) (same_window asked bank.receivers) is)

pub reported_in_order : (o : BankOrder) (bank : Bank) (due : Due) → IsReported o (ordered bank) due → IsReported o bank due
reported_in_order o bank due is = (
  is.0,
  answer_in_order o.asked bank is.0 is.1,
  is.2 ∙ ap (λ (w : Window). reported o.wanted w (ordered bank) is.0) (same_window o.asked bank.receivers) ∙ same_report o.wanted (window_of o.asked bank.receivers) bank is.0,
)
