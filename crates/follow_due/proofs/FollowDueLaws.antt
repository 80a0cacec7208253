-- Something is due of `follow` for all words and contents, and only one thing.
use Rattle.std.proofs.Common.{◌≡◌, ◌≢◌, ℕ, ◌≤◌, ◌⊎◌, inl, inr, true, false, List, Ok, Err, refl, sym, ◌∙◌, subst, arith}
use Rattle.std.specs.List.{range_with_len}
use Rattle.std.proofs.lemmas.Bool.{cases_lt}
use Rattle.signal_base.specs.declared.limits.TheConstants.{START_LIMIT}
use Rattle.definitions.specs.heard.Logs.{Records}
use Rattle.definitions.specs.time.Calendar.{century_minutes}
use Rattle.formats.specs.declared.option.OptionName.TheVariants.{Count}
use Rattle.formats.specs.declared.refusal.Refusal.{Refusal}
use Rattle.formats.specs.declared.refusal.Refusal.TheVariants.{WordsBad}
use Rattle.formats.specs.Orders.{Checked, Order}
use Rattle.formats.specs.Orders.Order.{Decode, Check, Feed, Encode, Trial, Follow, Sweep, Judge, Board, Irig, IrigRead}
use Rattle.bank_config.specs.Configuration.{PlainConfig}
use Rattle.due.specs.declared.due.Due.TheVariants.{Refused}
use Rattle.due.specs.declared.status.Status.TheVariants.{Failed, NoMemory}
use Rattle.due.specs.Banks.{Bank, bank_of}
use Rattle.due.specs.Inputs.{Contents}
use Rattle.due.specs.Loads.{IsBankLoaded, IsBankRefused}
use Rattle.due.specs.Orders.{word_refusal}
use Rattle.due.proofs.DueLaws.{IsBankJudged, bank_judged, not_both, one_bank, one_refusal}
use Rattle.due.proofs.StatusLaws.{no_failure_is_due}
use Rattle.follow_due.specs.declared.follow_due.FollowDue.{FollowDue}
use Rattle.follow_due.specs.declared.follow_due.FollowDue.TheVariants.{Told, Windows}
use Rattle.follow_due.specs.declared.window_report.WindowReport.{WindowReport}
use Rattle.follow_due.specs.FollowDues.{all_decided, follow_status}
use Rattle.follow_due.specs.FollowOrders.{AsksFollow, FollowOrder, first_window, follow_order_in, of_follow}
use Rattle.follow_due.specs.FollowRules.{Answered, Bad_bank, Bad_count, Bad_words, IsFollowDue, IsFollowed, Reported}
use Rattle.follow_due.specs.Windows.{last_start}
use Rattle.follow_due.proofs.OrderLaws.{asked_in_range, is_of_follow, one_order}
use Rattle.follow_due.proofs.ReportLaws.{one_list, some_list}

-- one thing is told of a bank
same_refusal : (r s : Refusal) (x y : FollowDue) → r ≡ s → x ≡ Told (Refused r) → y ≡ Told (Refused s) → x ≡ y
same_refusal r s x y e f g = cc

same_windows : (rs ss : List WindowReport) (x y : FollowDue) → rs ≡ ss → x ≡ Windows rs → y ≡ Windows ss → x ≡ y
same_windows rs ss x y e f g = cc

one_followed : (o : FollowOrder) (bank : Bank) (x y : FollowDue) → o.asked.to ≤ century_minutes → IsFollowed o bank x → IsFollowed o bank y → x ≡ y
one_followed o bank x y century (Bad_count late e) (Bad_count also f) = e ∙ sym f
one_followed o bank x y century (Bad_count late e) (Reported early reports are f) = absurd (omega (arith, late, early))
one_followed o bank x y century (Reported early reports are e) (Bad_count late f) = absurd (omega (arith, late, early))
one_followed o bank x y century (Reported early reports are e) (Reported also others too f) =
    same_windows reports others x y (one_list bank (first_window o bank) o.step (range_with_len 0 o.count) reports others century are too) e f

-- something is
some_followed : (o : FollowOrder) (bank : Bank) → o.asked.to ≤ century_minutes → (due : FollowDue) × IsFollowed o bank due
some_followed o bank century =
    elim (cases_lt (last_start (first_window o bank) o.step o.count) START_LIMIT) [
      | inl early ↦ (
          let found = some_list bank (first_window o bank) o.step (range_with_len 0 o.count) century in
          (Windows found.0, Reported early found.0 found.1 refl))
      | inr late ↦ (Told (Refused (WordsBad Count)), Bad_count late refl)
    ]

module _ (contents : Contents) where
  -- what is due for an order, and by what words come to
  abbrev IsDueOfBank : FollowOrder → FollowDue → Type 0
  IsDueOfBank o due =
      ((refusal : Refusal) × IsBankRefused contents refusal × (due ≡ Told (Refused refusal)))
      ⊎ ((config : PlainConfig) × (records : List Records) × IsBankLoaded contents config records × IsFollowed o (bank_of config records) due)

  abbrev IsDueBy : List (List ℕ) → Checked Order → FollowDue → Type 0
  IsDueBy words (Err fault) due = due ≡ Told (Refused (word_refusal fault))
  IsDueBy words (Ok order) due = (o : FollowOrder) × AsksFollow words o × IsDueOfBank o due

  asked : (words : List (List ℕ)) (o : FollowOrder) (due : FollowDue) → AsksFollow words o → IsDueOfBank o due → IsDueBy words (follow_order_in words) due
  asked words o due asks h = subst (λ (c : Checked Order). IsDueBy words c due) (sym asks.1) (o, asks, h)

  rule : (words : List (List ℕ)) (due : FollowDue) → IsFollowDue words contents due → IsDueBy words (follow_order_in words) due
  rule words due (Bad_words fault is e) = subst (λ (c : Checked Order). IsDueBy words c due) (sym is) e
  rule words due (Bad_bank o asks refusal bad e) = asked words o due asks (inl (refusal, bad, e))
  rule words due (Answered o asks config records loaded told) = asked words o due asks (inr (config, records, loaded, told))

  -- one thing is due
  one_of_bank : (o : FollowOrder) (x y : FollowDue) → o.asked.to ≤ century_minutes → IsDueOfBank o x → IsDueOfBank o y → x ≡ y
  one_of_bank o x y century (inl h) (inl k) = same_refusal h.0 k.0 x y (one_refusal contents h.0 k.0 h.1 k.1) h.2 k.2
  one_of_bank o x y century (inl h) (inr k) = absurd (not_both contents k.0 k.1 h.0 k.2 h.1)
  one_of_bank o x y century (inr h) (inl k) = absurd (not_both contents h.0 h.1 k.0 h.2 k.1)
  one_of_bank o x y century (inr h) (inr k) =
      one_followed o (bank_of k.0 k.1) x y century (subst (λ (b : Bank). IsFollowed o b x) (one_bank contents h.0 k.0 h.1 k.1 h.2 k.2) h.3) k.3

  one_by : (words : List (List ℕ)) (c : Checked Order) (x y : FollowDue) → IsDueBy words c x → IsDueBy words c y → x ≡ y
  one_by words (Err fault) x y h k = h ∙ sym k
  one_by words (Ok order) x y h k =
      one_of_bank k.0 x y (asked_in_range words k.0 k.1).century (subst (λ (o : FollowOrder). IsDueOfBank o x) (one_order words h.0 k.0 h.1 k.1) h.2) k.2

  pub one_follow_due : (words : List (List ℕ)) (x y : FollowDue) → IsFollowDue words contents x → IsFollowDue words contents y → x ≡ y
  one_follow_due words x y h k = one_by words (follow_order_in words) x y (rule words x h) (rule words y k)

  -- something is due
  bank_owes : (words : List (List ℕ)) (o : FollowOrder) → AsksFollow words o → (due : FollowDue) × IsFollowDue words contents due
  bank_owes words o asks = go (bank_judged contents)
    where
      go : IsBankJudged contents → (due : FollowDue) × IsFollowDue words contents due
      go (inr bad) = (Told (Refused bad.0), Bad_bank o asks bad.0 bad.1 refl)
      go (inl good) =
          let found = some_followed o (bank_of good.0 good.1) (asked_in_range words o asks).century in
          (found.0, Answered o asks good.0 good.1 good.2 found.1)

  order_owes : (words : List (List ℕ)) (order : Order) → follow_order_in words ≡ Ok order → of_follow order ≡ Ok order → (due : FollowDue) × IsFollowDue words contents due
  order_owes words (Follow config asked workers step count) is of = bank_owes words (record { config = config; asked = asked; step = step; count = count }) (workers, is)
  order_owes words (Decode config asked workers certificate) is of = absurd cc
  order_owes words (Check config certificate asked) is of = absurd cc
  order_owes words (Feed config asked workers) is of = absurd cc
  order_owes words (Encode station minute announced) is of = absurd cc
  order_owes words (Trial number workers) is of = absurd cc
  order_owes words (Sweep config asked workers certificate) is of = absurd cc
  order_owes words (Judge config certificate asked) is of = absurd cc
  order_owes words (Board config queries asked workers step count readers) is of = absurd cc
  order_owes words (Irig config asked workers) is of = absurd cc
  order_owes words (IrigRead file) is of = absurd cc

  pub some_follow_due : (words : List (List ℕ)) → (due : FollowDue) × IsFollowDue words contents due
  some_follow_due words = go (follow_order_in words) refl
    where
      go : (c : Checked Order) → follow_order_in words ≡ c → (due : FollowDue) × IsFollowDue words contents due
      go (Err fault) is = (Told (Refused (word_refusal fault)), Bad_words fault is refl)
      go (Ok order) is = order_owes words order is (is_of_follow words order is).1

-- no failure is due
pub no_follow_failure_is_due : (due : FollowDue) → (follow_status due ≢ Failed) × (follow_status due ≢ NoMemory)
no_follow_failure_is_due (Told due) = no_failure_is_due due
no_follow_failure_is_due (Windows reports) = by_cases (all_decided reports) refl
  where
    by_cases : (all : _) → all_decided reports ≡ all → (follow_status (Windows reports) ≢ Failed) × (follow_status (Windows reports) ≢ NoMemory)
    by_cases true is = rw is (λ e. cc, λ e. cc)
    by_cases false is = rw is (λ e. cc, λ e. cc)
