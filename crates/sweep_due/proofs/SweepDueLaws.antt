-- Something is due of `sweep` for all words and contents, and only one thing.
use Rattle.std.proofs.Common.{◌≡◌, ℕ, ◌<◌, ◌≤◌, ◌⊎◌, inl, inr, List, [], ◌∷◌, Ok, Err, refl, sym, ap, ◌∙◌, subst, arith}
use Rattle.signal_base.specs.declared.window.Window.{Window}
use Rattle.definitions.specs.declared.answer.Answer.{Answer}
use Rattle.definitions.specs.declared.answer.Answer.TheVariants as answers
use Rattle.definitions.specs.declared.sequence.Sequence.{Sequence}
use Rattle.definitions.specs.heard.Logs.{Records}
use Rattle.definitions.specs.time.Calendar.{century_minutes}
use Rattle.definitions.proofs.AnswerLaws.{answer_is_one}
use Rattle.formats.specs.declared.refusal.Refusal.{Refusal}
use Rattle.formats.specs.declared.words.Asked.{Asked}
use Rattle.formats.specs.Orders.{Checked, Order}
use Rattle.formats.specs.Orders.Order.{Decode, Check, Feed, Encode, Trial, Follow, Sweep, Judge, Board, Irig, IrigRead}
use Rattle.bank_config.specs.Configuration.{PlainConfig}
use Rattle.due.specs.declared.due.Due.{Due}
use Rattle.due.specs.declared.due.Due.TheVariants.{Refused, Report}
use Rattle.due.specs.Banks.{Bank, bank_of, costs_in, duts_of, window_of}
use Rattle.due.specs.Inputs.{Contents}
use Rattle.due.specs.Loads.{IsBankLoaded, IsBankRefused}
use Rattle.due.specs.Orders.{word_refusal}
use Rattle.due.proofs.DueLaws.{IsBankJudged, bank_judged, not_both, one_bank, one_refusal}
use Rattle.due.proofs.KeyExistLaws.{window_keys}
use Rattle.due.proofs.WindowLaws.{phase_in_range}
use Rattle.sweep_due.specs.declared.offsets.TheConstants.{PHASE_LIMIT}
use Rattle.sweep_due.specs.declared.standing.Standing.{Standing}
use Rattle.sweep_due.specs.Phases.{swept_offsets, window_at}
use Rattle.sweep_due.specs.Searches.{IsSearched}
use Rattle.sweep_due.specs.Standings.{answer_told, nothing_yet, window_told, with_two}
use Rattle.sweep_due.specs.SweepOrders.{AsksSweep, SweepOrder, of_sweep, sweep_order_in}
use Rattle.sweep_due.specs.SweepRules.{Answered, Bad_bank, Bad_words, IsBankSwept, IsSweepDue, IsSweepReport}
use Rattle.sweep_due.specs.Swept.{IsOffsetOf, IsToldWindow, IsWindowOf, swept_cost}
use Rattle.sweep_due.proofs.AnswerLaws.{swept_answer_is, told_window_is}
use Rattle.sweep_due.proofs.KeysLaws.{legal_sequence}
use Rattle.sweep_due.proofs.OffsetLaws.{all_swept}
use Rattle.sweep_due.proofs.OrderLaws.{asked_in_range, is_of_sweep, one_order}
use Rattle.sweep_due.proofs.SearchLaws.{not_above_the_bank}

-- one thing is told of a window
module _ (window : Window) (bank : Bank) where
  one_offset : (q : Sequence) (i j : ℕ) → IsOffsetOf window bank q i → IsOffsetOf window bank q j → i ≡ j
  one_offset q i j a b = let le = a.least j b.swept b.cost in let ge = b.least i a.swept a.cost in omega (arith, le, ge)

  one_window : (q : Sequence) (v w : Window) → IsWindowOf window bank q v → IsWindowOf window bank q w → v ≡ w
  one_window q v w a b = a.2 ∙ ap (window_at window) (one_offset q a.0 b.0 a.1 b.1) ∙ sym b.2

  one_told : (answer : Answer) (v w : Window) → IsToldWindow window bank answer v → IsToldWindow window bank answer w → v ≡ w
  one_told answers.Nothing v w a b = a ∙ sym b
  one_told (answers.Decided cost q next) v w a b = one_window q v w a b
  one_told (answers.Undecided cost q r) v w a b = one_window q v w a b

  same_report : (v w : Window) (a b : Answer) → v ≡ w → a ≡ b → Report v a (duts_of v bank a) ≡ Report w b (duts_of w bank b)
  same_report v w a b e f = ap (λ (u : Window). Report u a (duts_of u bank a)) e ∙ ap (λ (x : Answer). Report w x (duts_of w bank x)) f

  pub one_report : window.to ≤ century_minutes → (x y : Due) → IsSweepReport window bank x → IsSweepReport window bank y → x ≡ y
  one_report century x y h k =
      let same = answer_is_one _ (swept_cost window bank) (λ q a. legal_sequence window bank century q a.0) h.answer k.answer h.answer_is k.answer_is in
      let told = subst (λ (a : Answer). IsToldWindow window bank a h.told) same h.told_is in
      h.is ∙ same_report h.told k.told h.answer k.answer (one_told k.answer h.told k.told told k.told_is) same ∙ sym k.is

  -- something is: at each offset there are two keys, as far as a sequence is admitted
  some_searches : window.to ≤ century_minutes → (offsets : List ℕ) → (s : Standing) × IsSearched window bank offsets s
  some_searches century [] = (nothing_yet, refl)
  some_searches century (i ∷ earlier) =
      let before = some_searches century earlier in
      let found = window_keys (window_at window i) (costs_in (window_at window i) bank) bank.ceiling century in (
        with_two before.0 i found.0 found.1,
        (
          before.0,
          before.1,
          record { ceiling = bank.ceiling; not_below = not_above_the_bank bank.ceiling before.0.second; not_above = omega arith; found = (found.0, found.1, found.2, refl) },
        ),
      )

  pub some_report : window.to ≤ century_minutes → window.phase < PHASE_LIMIT → (due : Due) × IsSweepReport window bank due
  some_report century phase =
      let all = all_swept window.phase in
      let found = some_searches century (swept_offsets window.phase) in
      let s = found.0 in
      let answer = answer_told s in
      let told = window_told window s in (
        Report told answer (duts_of told bank answer),
        record {
          answer = answer;
          told = told;
          answer_is = swept_answer_is window bank century phase (swept_offsets window.phase) all s found.1;
          told_is = told_window_is window bank century phase (swept_offsets window.phase) all s found.1;
          is = refl;
        },
      )

-- a window that is asked about has a phase
pub asked_phase : (asked : Asked) (bank : Bank) → (window_of asked bank.receivers).phase < PHASE_LIMIT
asked_phase asked bank = phase_in_range (window_of asked bank.receivers).start asked.seconds bank.receivers

same_refusal : (r s : Refusal) (x y : Due) → r ≡ s → x ≡ Refused r → y ≡ Refused s → x ≡ y
same_refusal r s x y e f g = cc

module _ (contents : Contents) where
  -- what is due for an order, and by what words come to
  abbrev IsDueOfBank : SweepOrder → Due → Type 0
  IsDueOfBank o due =
      ((refusal : Refusal) × IsBankRefused contents refusal × (due ≡ Refused refusal))
      ⊎ ((config : PlainConfig) × (records : List Records) × IsBankLoaded contents config records × IsBankSwept o (bank_of config records) due)

  abbrev IsDueBy : List (List ℕ) → Checked Order → Due → Type 0
  IsDueBy words (Err fault) due = due ≡ Refused (word_refusal fault)
  IsDueBy words (Ok order) due = (o : SweepOrder) × AsksSweep words o × IsDueOfBank o due

  asked : (words : List (List ℕ)) (o : SweepOrder) (due : Due) → AsksSweep words o → IsDueOfBank o due → IsDueBy words (sweep_order_in words) due
  asked words o due asks h = subst (λ (c : Checked Order). IsDueBy words c due) (sym asks.2) (o, asks, h)

  rule : (words : List (List ℕ)) (due : Due) → IsSweepDue words contents due → IsDueBy words (sweep_order_in words) due
  rule words due (Bad_words fault is e) = subst (λ (c : Checked Order). IsDueBy words c due) (sym is) e
  rule words due (Bad_bank o asks refusal bad e) = asked words o due asks (inl (refusal, bad, e))
  rule words due (Answered o asks config records loaded told) = asked words o due asks (inr (config, records, loaded, told))

  -- one thing is due
  one_of_bank : (o : SweepOrder) (x y : Due) → o.asked.to ≤ century_minutes → IsDueOfBank o x → IsDueOfBank o y → x ≡ y
  one_of_bank o x y century (inl h) (inl k) = same_refusal h.0 k.0 x y (one_refusal contents h.0 k.0 h.1 k.1) h.2 k.2
  one_of_bank o x y century (inl h) (inr k) = absurd (not_both contents k.0 k.1 h.0 k.2 h.1)
  one_of_bank o x y century (inr h) (inl k) = absurd (not_both contents h.0 h.1 k.0 h.2 k.1)
  one_of_bank o x y century (inr h) (inr k) =
      one_report (window_of o.asked (bank_of k.0 k.1).receivers) (bank_of k.0 k.1) century x y
      (subst (λ (b : Bank). IsBankSwept o b x) (one_bank contents h.0 k.0 h.1 k.1 h.2 k.2) h.3) k.3

  one_by : (words : List (List ℕ)) (c : Checked Order) (x y : Due) → IsDueBy words c x → IsDueBy words c y → x ≡ y
  one_by words (Err fault) x y h k = h ∙ sym k
  one_by words (Ok order) x y h k =
      one_of_bank k.0 x y (asked_in_range words k.0 k.1).century (subst (λ (o : SweepOrder). IsDueOfBank o x) (one_order words h.0 k.0 h.1 k.1) h.2) k.2

  pub one_sweep_due : (words : List (List ℕ)) (x y : Due) → IsSweepDue words contents x → IsSweepDue words contents y → x ≡ y
  one_sweep_due words x y h k = one_by words (sweep_order_in words) x y (rule words x h) (rule words y k)

  -- something is due
  bank_owes : (words : List (List ℕ)) (o : SweepOrder) → AsksSweep words o → (due : Due) × IsSweepDue words contents due
  bank_owes words o asks = go (bank_judged contents)
    where
      go : IsBankJudged contents → (due : Due) × IsSweepDue words contents due
      go (inr bad) = (Refused bad.0, Bad_bank o asks bad.0 bad.1 refl)
      go (inl good) =
          let bank = bank_of good.0 good.1 in
          let found = some_report (window_of o.asked bank.receivers) bank (asked_in_range words o asks).century (asked_phase o.asked bank) in
          (found.0, Answered o asks good.0 good.1 good.2 found.1)

  order_owes : (words : List (List ℕ)) (order : Order) → sweep_order_in words ≡ Ok order → of_sweep order ≡ Ok order → (due : Due) × IsSweepDue words contents due
  order_owes words (Sweep config asked workers certificate) is of = bank_owes words (record { config = config; asked = asked }) (workers, certificate, is)
  order_owes words (Follow config asked workers step count) is of = absurd cc
  order_owes words (Decode config asked workers certificate) is of = absurd cc
  order_owes words (Check config certificate asked) is of = absurd cc
  order_owes words (Feed config asked workers) is of = absurd cc
  order_owes words (Encode station minute announced) is of = absurd cc
  order_owes words (Trial number workers) is of = absurd cc
  order_owes words (Judge config certificate asked) is of = absurd cc
  order_owes words (Board config queries asked workers step count readers) is of = absurd cc
  order_owes words (Irig config asked workers) is of = absurd cc
  order_owes words (IrigRead file) is of = absurd cc

  pub some_sweep_due : (words : List (List ℕ)) → (due : Due) × IsSweepDue words contents due
  some_sweep_due words = go (sweep_order_in words) refl
    where
      go : (c : Checked Order) → sweep_order_in words ≡ c → (due : Due) × IsSweepDue words contents due
      go (Err fault) is = (Refused (word_refusal fault), Bad_words fault is refl)
      go (Ok order) is = order_owes words order is (is_of_sweep words order is).1
