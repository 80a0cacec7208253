-- What is shown is what a decode tells, and the costs of what was heard add up to its cost.
use Rattle.std.proofs.Common.{◌≡◌, ℕ, Bool, true, false, ◌==◌, ◌&&◌, ◌||◌, List, [], ◌∷◌, sum_by, Option, refl, sym, ◌∙◌, ap, subst, eq-eqb}
use Rattle.std.specs.List.{list_all, list_any}
use Rattle.signal_base.specs.declared.dut.StationDut.{StationDut}
use Rattle.signal_base.specs.declared.station.Station.{Station}
use Rattle.signal_base.specs.declared.window.Window.{Window}
use Rattle.signal_base.specs.Number.{number_of}
use Rattle.definitions.specs.declared.answer.Answer.{Answer}
use Rattle.definitions.specs.declared.answer.Answer.TheVariants as answers
use Rattle.definitions.specs.declared.sequence.Sequence.{Sequence}
use Rattle.definitions.specs.codes.Allowed.{has_station}
use Rattle.definitions.specs.heard.Logs.{Records}
use Rattle.definitions.specs.heard.Receivers.{Receiver}
use Rattle.formats.specs.Heard.{Hearing, receiver_sums}
use Rattle.formats.proofs.ShareLaws.{sums_law}
use Rattle.bank_config.specs.Configuration.{PlainConfig}
use Rattle.due.specs.declared.due.Due.{Due}
use Rattle.due.specs.declared.due.Due.TheVariants as dues
use Rattle.due.specs.declared.heard_due.HeardDue.{HeardDue}
use Rattle.due.specs.declared.heard_due.HeardDue.TheVariants.{Told, Heard}
use Rattle.due.specs.Banks.{Bank, IsBankAnswer, bank_of, duts_of, is_heard, stations_heard, window_of}
use Rattle.due.specs.HeardRuns.{AsksHeard, IsHeardDue, Bad_words as Words_refused, Bad_bank as Bank_refused, Answered as Shown, IsShown, decode_words, hearing_of, names_left_out}
use Rattle.due.specs.Inputs.{Contents}
use Rattle.due.specs.Loads.{IsBankLoaded}
use Rattle.due.specs.Orders.{BankOrder, Wanted}
use Rattle.due.specs.Rules.{IsDue, Answered, Bad_bank, Bad_words, reported}
use Rattle.due.proofs.HeardWordLaws.{asks_decode, none_named, report_wanted}
use Rattle.due.proofs.WindowLaws.{station_is_heard}

-- each receiver listens to a station that is heard
or_true : (b : Bool) → (b || true) ≡ true
or_true true = refl
or_true false = refl

all_are_heard : (all rs : List Receiver) → ((station : Station) → is_heard rs station ≡ true → is_heard all station ≡ true)
    → list_all (λ r. has_station (stations_heard all) r.station) rs ≡ true
all_are_heard all [] among = refl
all_are_heard all (r ∷ rs) among =
    let others : Station → Bool = λ s. list_any (λ (other : Receiver). number_of other.station == number_of s) rs in
    let first : is_heard (r ∷ rs) r.station ≡ true = ap (λ b. b || others r.station) (eq-eqb (number_of r.station) (number_of r.station) refl) in
    let here : has_station (stations_heard all) r.station ≡ true = station_is_heard all r.station ∙ among r.station first in
    let rest = all_are_heard all rs (λ s e. among s (ap (λ b. (number_of r.station == number_of s) || b) e ∙ or_true (number_of r.station == number_of s))) in
    ap (λ b. b && list_all (λ s. has_station (stations_heard all) s.station) rs) here ∙ rest

-- the costs of the receivers add up to the cost of the answer
same_told : (a b : Due) → ◌≡◌ {A = HeardDue Hearing} (Told a) (Told b) → a ≡ b
same_told a b e = cc

same_heard : (a b : Hearing) → ◌≡◌ {A = HeardDue Hearing} (Heard a) (Heard b) → a ≡ b
same_heard a b e = cc

sums : (window : Window) (bank : Bank) (c : ℕ) (q : Sequence) (next : Option ℕ) → window.stations ≡ stations_heard bank.receivers
    → IsBankAnswer window bank (answers.Decided c q next) → sum_by (λ r. r.cost) (receiver_sums (hearing_of window bank q next)) ≡ c
sums window bank c q next stations is =
    sums_law (hearing_of window bank q next)
    (subst (λ s. list_all (λ (r : Receiver). has_station s r.station) bank.receivers ≡ true) (sym stations) (all_are_heard bank.receivers bank.receivers (λ s e. e)))
    ∙ sym is.1

module _ (words : List (List ℕ)) (contents : Contents) where
  -- what is told
  told_by_report : (o : BankOrder) → AsksHeard words o → (config : PlainConfig) (records : List Records) → IsBankLoaded contents config records
      → (answer : Answer) → IsBankAnswer (window_of o.asked (bank_of config records).receivers) (bank_of config records) answer
      → IsDue (decode_words words) contents (dues.Report (window_of o.asked (bank_of config records).receivers) answer (duts_of (window_of o.asked (bank_of config records).receivers) (bank_of config records) answer))
  told_by_report o asks config records loaded answer is =
      let bank = bank_of config records in
      let window = window_of o.asked bank.receivers in
      let wanted = report_wanted words o asks in
      Answered o (asks_decode words o asks) config records loaded (answer, is, sym (ap (λ (w : Wanted). reported w window bank answer) wanted.1))

  told_of : (o : BankOrder) → AsksHeard words o → (config : PlainConfig) (records : List Records) → IsBankLoaded contents config records
      → (due : Due) → IsShown o (bank_of config records) (Told due) → IsDue (decode_words words) contents due
  told_of o asks config records loaded due (answers.Decided c q next, is, e) = absurd cc
  told_of o asks config records loaded due (answers.Undecided c q r, is, e) =
      subst (IsDue (decode_words words) contents) (sym (same_told _ _ e)) (told_by_report o asks config records loaded (answers.Undecided c q r) is)
  told_of o asks config records loaded due (answers.Nothing, is, e) =
      subst (IsDue (decode_words words) contents) (sym (same_told _ _ e)) (told_by_report o asks config records loaded answers.Nothing is)

  pub what_is_told : (due : Due) → names_left_out words ≡ false → IsHeardDue words contents (Told due) → IsDue (decode_words words) contents due
  what_is_told due none (Words_refused fault bad e) = Bad_words fault (sym (none_named words none) ∙ bad) (same_told _ _ e)
  what_is_told due none (Bank_refused o asks refusal bad e) = Bad_bank o (asks_decode words o asks) refusal bad (same_told _ _ e)
  what_is_told due none (Shown o asks config records loaded is) = told_of o asks config records loaded due is

  -- what is decided where something was heard
  abbrev IsDecidedSo : Hearing → Type 0
  IsDecidedSo h =
      (cost : ℕ) × (next : Option ℕ) × (duts : List StationDut)
      × IsDue (decode_words words) contents (dues.Report h.window (answers.Decided cost h.sequence next) duts)
      × (sum_by (λ r. r.cost) (receiver_sums h) ≡ cost)

  heard_of : (o : BankOrder) → AsksHeard words o → (config : PlainConfig) (records : List Records) → IsBankLoaded contents config records
      → (h : Hearing) → IsShown o (bank_of config records) (Heard h) → IsDecidedSo h
  heard_of o asks config records loaded h (answers.Decided c q next, is, e) =
      let bank = bank_of config records in
      let window = window_of o.asked bank.receivers in
      subst IsDecidedSo (sym (same_heard _ _ e))
      (c, next, duts_of window bank (answers.Decided c q next), told_by_report o asks config records loaded (answers.Decided c q next) is, sums window bank c q next refl is)
  heard_of o asks config records loaded h (answers.Undecided c q r, is, e) = absurd cc
  heard_of o asks config records loaded h (answers.Nothing, is, e) = absurd cc

  pub what_is_heard : (h : Hearing) → IsHeardDue words contents (Heard h) → IsDecidedSo h
  what_is_heard h (Words_refused fault bad e) = absurd cc
  what_is_heard h (Bank_refused o asks refusal bad e) = absurd cc
  what_is_heard h (Shown o asks config records loaded is) = heard_of o asks config records loaded h is
