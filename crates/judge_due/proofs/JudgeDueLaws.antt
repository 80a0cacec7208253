-- Something is due of `judge` for all words and contents, and only one thing.
use Rattle.std.proofs.Common.{◌≡◌, ℕ, ◌<◌, ◌≤◌, ◌⊎◌, inl, inr, List, Ok, Err, refl, sym, ap, ◌∙◌, subst}
use Rattle.signal_base.specs.declared.window.Window.{Window}
use Rattle.definitions.specs.heard.Logs.{Records}
use Rattle.definitions.specs.time.Calendar.{century_minutes}
use Rattle.formats.specs.declared.refusal.Refusal.{Refusal}
use Rattle.formats.specs.declared.words.Asked.{Asked}
use Rattle.formats.specs.OrderRanges.{IsAsked}
use Rattle.formats.specs.Orders.{Checked, Order}
use Rattle.formats.specs.Orders.Order.{Decode, Check, Feed, Encode, Trial, Follow, Sweep, Judge, Board, Irig, IrigRead}
use Rattle.bank_config.specs.Configuration.{PlainConfig}
use Rattle.due.specs.declared.due.Due.TheVariants.{Refused}
use Rattle.due.specs.Banks.{Bank, bank_of, start_of, window_of}
use Rattle.due.specs.Inputs.{Contents}
use Rattle.due.specs.Loads.{IsBankLoaded, IsBankRefused}
use Rattle.due.specs.Orders.{word_refusal}
use Rattle.due.proofs.DueLaws.{IsBankJudged as IsJudgedOrRefused, bank_judged, not_both, one_bank, one_refusal}
use Rattle.due.proofs.WindowLaws.{phase_in_range}
use Rattle.sweep_due.specs.declared.offsets.TheConstants.{PHASE_LIMIT}
use Rattle.sweep_due.specs.JudgeRules.{AsksJudge, Files, IsJudged, JudgeDue, JudgeOrder}
use Rattle.judge_due.specs.JudgeOrders.{judge_order_in, of_judge}
use Rattle.judge_due.specs.JudgeDues.{Bad_bank, Bad_words, Files_judged, IsBankJudged, IsJudgeDue, files_in}
use Rattle.judge_due.specs.JudgeTexts.{JudgeOwed}
use Rattle.judge_due.specs.JudgeTexts.JudgeOwed.{Judged, Told}
use Rattle.judge_due.proofs.JudgeOrderLaws.{asks_in_order, in_range, is_of_judge, one_order}

-- one thing is told of certificates, and something is
abbrev pub TellsOne : Type 0
TellsOne = (window : Window) (bank : Bank) (files : Files) (a b : JudgeDue) → window.to ≤ century_minutes → IsJudged window bank files a → IsJudged window bank files b → a ≡ b

abbrev pub TellsSome : Type 0
TellsSome = (window : Window) (bank : Bank) (files : Files) → window.to ≤ century_minutes → window.phase < PHASE_LIMIT → (due : JudgeDue) × IsJudged window bank files due

same_refusal : (r s : Refusal) (x y : JudgeOwed) → r ≡ s → x ≡ Told (Refused r) → y ≡ Told (Refused s) → x ≡ y
same_refusal r s x y e f g = cc

same_told : (a b : JudgeDue) (x y : JudgeOwed) → a ≡ b → x ≡ Judged a → y ≡ Judged b → x ≡ y
same_told a b x y e f g = f ∙ ap Judged e ∙ sym g

pub asked_in_range : (words : List (List ℕ)) (o : JudgeOrder) → AsksJudge words o → IsAsked o.asked
asked_in_range words o asks = (in_range words o asks).2

-- the window of a decode has a phase
pub asked_phase : (asked : Asked) (bank : Bank) → (window_of asked bank.receivers).phase < PHASE_LIMIT
asked_phase asked bank = phase_in_range (start_of asked bank.receivers) asked.seconds bank.receivers

module _ (contents : Contents) where
  -- what is due for an order, and by what words come to
  abbrev IsDueOfBank : JudgeOrder → JudgeOwed → Type 0
  IsDueOfBank o owed =
      ((refusal : Refusal) × IsBankRefused contents refusal × (owed ≡ Told (Refused refusal)))
      ⊎ ((config : PlainConfig) × (records : List Records) × IsBankLoaded contents config records
      × (due : JudgeDue) × IsBankJudged o (bank_of config records) (files_in contents) due × (owed ≡ Judged due))

  abbrev IsDueBy : List (List ℕ) → Checked Order → JudgeOwed → Type 0
  IsDueBy words (Err fault) owed = owed ≡ Told (Refused (word_refusal fault))
  IsDueBy words (Ok order) owed = (o : JudgeOrder) × AsksJudge words o × IsDueOfBank o owed

  asked : (words : List (List ℕ)) (o : JudgeOrder) (owed : JudgeOwed) → AsksJudge words o → IsDueOfBank o owed → IsDueBy words (judge_order_in words) owed
  asked words o owed asks h = subst (λ (c : Checked Order). IsDueBy words c owed) (sym (asks_in_order words o asks)) (o, asks, h)

  rule : (words : List (List ℕ)) (owed : JudgeOwed) → IsJudgeDue words contents owed → IsDueBy words (judge_order_in words) owed
  rule words owed (Bad_words fault is e) = subst (λ (c : Checked Order). IsDueBy words c owed) (sym is) e
  rule words owed (Bad_bank o asks refusal bad e) = asked words o owed asks (inl (refusal, bad, e))
  rule words owed (Files_judged o asks config records loaded due told e) = asked words o owed asks (inr (config, records, loaded, due, told, e))

  -- one thing is due
  module _ (tells_one : TellsOne) where
    one_of_bank : (o : JudgeOrder) (x y : JudgeOwed) → o.asked.to ≤ century_minutes → IsDueOfBank o x → IsDueOfBank o y → x ≡ y
    one_of_bank o x y century (inl h) (inl k) = same_refusal h.0 k.0 x y (one_refusal contents h.0 k.0 h.1 k.1) h.2 k.2
    one_of_bank o x y century (inl h) (inr k) = absurd (not_both contents k.0 k.1 h.0 k.2 h.1)
    one_of_bank o x y century (inr h) (inl k) = absurd (not_both contents h.0 h.1 k.0 h.2 k.1)
    one_of_bank o x y century (inr h) (inr k) =
        let bank = bank_of k.0 k.1 in
        same_told h.3 k.3 x y
        (tells_one (window_of o.asked bank.receivers) bank (files_in contents) h.3 k.3 century
        (subst (λ (b : Bank). IsBankJudged o b (files_in contents) h.3) (one_bank contents h.0 k.0 h.1 k.1 h.2 k.2) h.4) k.4) h.5 k.5

    one_by : (words : List (List ℕ)) (c : Checked Order) (x y : JudgeOwed) → IsDueBy words c x → IsDueBy words c y → x ≡ y
    one_by words (Err fault) x y h k = h ∙ sym k
    one_by words (Ok order) x y h k =
        one_of_bank k.0 x y (asked_in_range words k.0 k.1).century (subst (λ (o : JudgeOrder). IsDueOfBank o x) (one_order words h.0 k.0 h.1 k.1) h.2) k.2

    pub one_judge_due : (words : List (List ℕ)) (x y : JudgeOwed) → IsJudgeDue words contents x → IsJudgeDue words contents y → x ≡ y
    one_judge_due words x y h k = one_by words (judge_order_in words) x y (rule words x h) (rule words y k)

  -- something is due
  module _ (tells_some : TellsSome) where
    bank_owes : (words : List (List ℕ)) (o : JudgeOrder) → AsksJudge words o → (owed : JudgeOwed) × IsJudgeDue words contents owed
    bank_owes words o asks = go (bank_judged contents)
      where
        go : IsJudgedOrRefused contents → (owed : JudgeOwed) × IsJudgeDue words contents owed
        go (inr bad) = (Told (Refused bad.0), Bad_bank o asks bad.0 bad.1 refl)
        go (inl good) =
            let bank = bank_of good.0 good.1 in
            let found = tells_some (window_of o.asked bank.receivers) bank (files_in contents) (asked_in_range words o asks).century (asked_phase o.asked bank) in
            (Judged found.0, Files_judged o asks good.0 good.1 good.2 found.0 found.1 refl)

    order_owes : (words : List (List ℕ)) (order : Order) → judge_order_in words ≡ Ok order → of_judge order ≡ Ok order → (owed : JudgeOwed) × IsJudgeDue words contents owed
    order_owes words (Judge config name asked) is of =
        bank_owes words (record { config = config; name = name; asked = asked }) (is_of_judge words (Judge config name asked) is).0
    order_owes words (Check config certificate asked) is of = absurd cc
    order_owes words (Decode config asked workers certificate) is of = absurd cc
    order_owes words (Feed config asked workers) is of = absurd cc
    order_owes words (Encode station minute announced) is of = absurd cc
    order_owes words (Trial number workers) is of = absurd cc
    order_owes words (Follow config asked workers step count) is of = absurd cc
    order_owes words (Sweep config asked workers certificate) is of = absurd cc
    order_owes words (Board config queries asked workers step count readers) is of = absurd cc
    order_owes words (Irig config asked workers) is of = absurd cc
    order_owes words (IrigRead file) is of = absurd cc

    pub some_judge_due : (words : List (List ℕ)) → (owed : JudgeOwed) × IsJudgeDue words contents owed
    some_judge_due words = go (judge_order_in words) refl
      where
        go : (c : Checked Order) → judge_order_in words ≡ c → (owed : JudgeOwed) × IsJudgeDue words contents owed
        go (Err fault) is = (Told (Refused (word_refusal fault)), Bad_words fault is refl)
        go (Ok order) is = order_owes words order is (is_of_judge words order is).1

  -- what is told of certificates is what is told of those of the one bank
  due_is : (a b : JudgeDue) → Judged a ≡ Judged b → a ≡ b
  due_is a b e = cc

  refused_or_judged : (r : Refusal) (due : JudgeDue) → Judged due ≡ Told (Refused r) → ⊥
  refused_or_judged r due e = cc

  pub judged_of_bank : (words : List (List ℕ)) (o : JudgeOrder) (config : PlainConfig) (records : List Records) (due : JudgeDue) → AsksJudge words o
      → IsBankLoaded contents config records → IsJudgeDue words contents (Judged due) → IsBankJudged o (bank_of config records) (files_in contents) due
  judged_of_bank words o config records due asks loaded (Bad_words fault is e) = absurd (refused_or_judged (word_refusal fault) due e)
  judged_of_bank words o config records due asks loaded (Bad_bank p also refusal bad e) = absurd (refused_or_judged refusal due e)
  judged_of_bank words o config records due asks loaded (Files_judged p also other others too d told e) =
      subst (λ (x : JudgeDue). IsBankJudged o (bank_of config records) (files_in contents) x) (sym (due_is due d e))
      (subst (λ (q : JudgeOrder). IsBankJudged q (bank_of config records) (files_in contents) d) (one_order words p o also asks)
      (subst (λ (b : Bank). IsBankJudged p b (files_in contents) d) (one_bank contents other config others records too loaded) told))
