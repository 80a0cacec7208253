-- Something is due of `check` for all words and contents, and only one thing.
use Rattle.std.proofs.Common.{◌≡◌, ℕ, ◌⊎◌, inl, inr, List, Ok, Err, refl, sym, ap, ◌∙◌, subst}
use Rattle.signal_base.specs.declared.window.Window.{Window}
use Rattle.definitions.specs.heard.Logs.{Records}
use Rattle.formats.specs.declared.refusal.Refusal.{Refusal}
use Rattle.formats.specs.Orders.{Checked, Order}
use Rattle.formats.specs.Orders.Order.{Decode, Check, Feed, Encode, Trial, Follow, Sweep, Judge, Board, Irig, IrigRead}
use Rattle.bank_config.specs.Configuration.{PlainConfig}
use Rattle.due.specs.declared.check_due.CheckDue.{CheckDue}
use Rattle.due.specs.declared.due.Due.TheVariants.{Refused}
use Rattle.due.specs.Banks.{Bank, bank_of, window_of}
use Rattle.due.specs.CertificateRules.{AsksCheck, CheckOrder, IsChecked}
use Rattle.due.specs.Inputs.{Certificate, Contents}
use Rattle.due.specs.Loads.{IsBankLoaded, IsBankRefused}
use Rattle.due.specs.Orders.{word_refusal}
use Rattle.due.proofs.DueLaws.{IsBankJudged, bank_judged, not_both, one_bank, one_refusal}
use Rattle.check_due.specs.declared.check_owed.CheckOwed.{CheckOwed}
use Rattle.check_due.specs.declared.check_owed.CheckOwed.TheVariants as owes
use Rattle.check_due.specs.CheckOrders.{check_order_in, of_check}
use Rattle.check_due.specs.CheckRules.{Bad_bank, Bad_words, IsBankChecked, IsCheckDue, Judged}
use Rattle.check_due.proofs.CheckOrderLaws.{asks_in_order, is_of_check, one_order}

-- one thing is told of bytes, and something is
abbrev pub TellsOne : Type 0
TellsOne = (window : Window) (bank : Bank) (bytes : List ℕ) (a b : CheckDue) → IsChecked window bank bytes a → IsChecked window bank bytes b → a ≡ b

abbrev pub TellsSome : Type 0
TellsSome = (window : Window) (bank : Bank) (bytes : List ℕ) → (due : CheckDue) × IsChecked window bank bytes due

same_refusal : (r s : Refusal) (x y : CheckOwed) → r ≡ s → x ≡ owes.Told (Refused r) → y ≡ owes.Told (Refused s) → x ≡ y
same_refusal r s x y e f g = cc

same_told : (a b : CheckDue) (x y : CheckOwed) → a ≡ b → x ≡ owes.Judged a → y ≡ owes.Judged b → x ≡ y
same_told a b x y e f g = f ∙ ap owes.Judged e ∙ sym g

module _ (contents : Contents) where
  -- what is due for an order, and by what words come to
  abbrev IsDueOfBank : CheckOrder → CheckOwed → Type 0
  IsDueOfBank o owed =
      ((refusal : Refusal) × IsBankRefused contents refusal × (owed ≡ owes.Told (Refused refusal)))
      ⊎ ((config : PlainConfig) × (records : List Records) × IsBankLoaded contents config records
      × (due : CheckDue) × IsBankChecked o (bank_of config records) (contents Certificate) due × (owed ≡ owes.Judged due))

  abbrev IsDueBy : List (List ℕ) → Checked Order → CheckOwed → Type 0
  IsDueBy words (Err fault) owed = owed ≡ owes.Told (Refused (word_refusal fault))
  IsDueBy words (Ok order) owed = (o : CheckOrder) × AsksCheck words o × IsDueOfBank o owed

  asked : (words : List (List ℕ)) (o : CheckOrder) (owed : CheckOwed) → AsksCheck words o → IsDueOfBank o owed → IsDueBy words (check_order_in words) owed
  asked words o owed asks h = subst (λ (c : Checked Order). IsDueBy words c owed) (sym (asks_in_order words o asks)) (o, asks, h)

  rule : (words : List (List ℕ)) (owed : CheckOwed) → IsCheckDue words contents owed → IsDueBy words (check_order_in words) owed
  rule words owed (Bad_words fault is e) = subst (λ (c : Checked Order). IsDueBy words c owed) (sym is) e
  rule words owed (Bad_bank o asks refusal bad e) = asked words o owed asks (inl (refusal, bad, e))
  rule words owed (Judged o asks config records loaded due told e) = asked words o owed asks (inr (config, records, loaded, due, told, e))

  -- one thing is due
  module _ (tells_one : TellsOne) where
    one_of_bank : (o : CheckOrder) (x y : CheckOwed) → IsDueOfBank o x → IsDueOfBank o y → x ≡ y
    one_of_bank o x y (inl h) (inl k) = same_refusal h.0 k.0 x y (one_refusal contents h.0 k.0 h.1 k.1) h.2 k.2
    one_of_bank o x y (inl h) (inr k) = absurd (not_both contents k.0 k.1 h.0 k.2 h.1)
    one_of_bank o x y (inr h) (inl k) = absurd (not_both contents h.0 h.1 k.0 h.2 k.1)
    one_of_bank o x y (inr h) (inr k) =
        let bank = bank_of k.0 k.1 in
        same_told h.3 k.3 x y
        (tells_one (window_of o.asked bank.receivers) bank (contents Certificate) h.3 k.3
        (subst (λ (b : Bank). IsBankChecked o b (contents Certificate) h.3) (one_bank contents h.0 k.0 h.1 k.1 h.2 k.2) h.4) k.4) h.5 k.5

    one_by : (words : List (List ℕ)) (c : Checked Order) (x y : CheckOwed) → IsDueBy words c x → IsDueBy words c y → x ≡ y
    one_by words (Err fault) x y h k = h ∙ sym k
    one_by words (Ok order) x y h k =
        one_of_bank k.0 x y (subst (λ (o : CheckOrder). IsDueOfBank o x) (one_order words h.0 k.0 h.1 k.1) h.2) k.2

    pub one_check_due : (words : List (List ℕ)) (x y : CheckOwed) → IsCheckDue words contents x → IsCheckDue words contents y → x ≡ y
    one_check_due words x y h k = one_by words (check_order_in words) x y (rule words x h) (rule words y k)

  -- something is due
  module _ (tells_some : TellsSome) where
    bank_owes : (words : List (List ℕ)) (o : CheckOrder) → AsksCheck words o → (owed : CheckOwed) × IsCheckDue words contents owed
    bank_owes words o asks = go (bank_judged contents)
      where
        go : IsBankJudged contents → (owed : CheckOwed) × IsCheckDue words contents owed
        go (inr bad) = (owes.Told (Refused bad.0), Bad_bank o asks bad.0 bad.1 refl)
        go (inl good) =
            let bank = bank_of good.0 good.1 in
            let found = tells_some (window_of o.asked bank.receivers) bank (contents Certificate) in
            (owes.Judged found.0, Judged o asks good.0 good.1 good.2 found.0 found.1 refl)

    order_owes : (words : List (List ℕ)) (order : Order) → check_order_in words ≡ Ok order → of_check order ≡ Ok order → (owed : CheckOwed) × IsCheckDue words contents owed
    order_owes words (Check config certificate asked) is of =
        bank_owes words (record { config = config; certificate = certificate; asked = asked }) (is_of_check words (Check config certificate asked) is).0
    order_owes words (Decode config asked workers certificate) is of = absurd cc
    order_owes words (Feed config asked workers) is of = absurd cc
    order_owes words (Encode station minute announced) is of = absurd cc
    order_owes words (Trial number workers) is of = absurd cc
    order_owes words (Follow config asked workers step count) is of = absurd cc
    order_owes words (Sweep config asked workers certificate) is of = absurd cc
    order_owes words (Judge config certificate asked) is of = absurd cc
    order_owes words (Board config queries asked workers step count readers) is of = absurd cc
    order_owes words (Irig config asked workers) is of = absurd cc
    order_owes words (IrigRead file) is of = absurd cc

    pub some_check_due : (words : List (List ℕ)) → (owed : CheckOwed) × IsCheckDue words contents owed
    some_check_due words = go (check_order_in words) refl
      where
        go : (c : Checked Order) → check_order_in words ≡ c → (owed : CheckOwed) × IsCheckDue words contents owed
        go (Err fault) is = (owes.Told (Refused (word_refusal fault)), Bad_words fault is refl)
        go (Ok order) is = order_owes words order is (is_of_check words order is).1

  -- what is certified is what is told of the one bank
  told_is : (a b : CheckDue) → owes.Judged a ≡ owes.Judged b → a ≡ b
  told_is a b e = cc

  refused_or_told : (r : Refusal) (due : CheckDue) → owes.Judged due ≡ owes.Told (Refused r) → ⊥
  refused_or_told r due e = cc

  pub told_of_bank : (words : List (List ℕ)) (o : CheckOrder) (config : PlainConfig) (records : List Records) (due : CheckDue) → AsksCheck words o
      → IsBankLoaded contents config records → IsCheckDue words contents (owes.Judged due) → IsBankChecked o (bank_of config records) (contents Certificate) due
  told_of_bank words o config records due asks loaded (Bad_words fault is e) = absurd (refused_or_told (word_refusal fault) due e)
  told_of_bank words o config records due asks loaded (Bad_bank p also refusal bad e) = absurd (refused_or_told refusal due e)
  told_of_bank words o config records due asks loaded (Judged p also other others too d told e) =
      subst (λ (x : CheckDue). IsBankChecked o (bank_of config records) (contents Certificate) x) (sym (told_is due d e))
      (subst (λ (q : CheckOrder). IsBankChecked q (bank_of config records) (contents Certificate) d) (one_order words p o also asks)
      (subst (λ (b : Bank). IsBankChecked p b (contents Certificate) d) (one_bank contents other config others records too loaded) told))
