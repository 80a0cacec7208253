-- The answer from the first two keys, by the grids and by the bank's own costs; and what it tells of DUT1.
use Rattle.std.proofs.Common.{◌≡◌, ℕ, ◌≤◌, List, Option, Some, None, Result, Ok, Err, IfOk, sym, ap, ◌∙◌, subst}
use Rattle.signal_base.specs.declared.window.Window.{Window}
use Rattle.definitions.specs.declared.sequence.Sequence.{Sequence}
use Rattle.definitions.specs.declared.answer.Answer.{Answer}
use Rattle.definitions.specs.declared.answer.Answer.TheVariants.{Nothing, Decided, Undecided}
use Rattle.definitions.specs.sequences.Keys.{key_of}
use Rattle.definitions.specs.sequences.Windows.{IsWindow}
use Rattle.definitions.specs.heard.Costs.{Costs, sequence_cost}
use Rattle.definitions.specs.answers.Answers.{IsWindowAnswer}
use Rattle.definitions.specs.answers.FirstTwo.{AreLeastTwo, IsWindowKey}
use Rattle.definitions.proofs.AnswerLaws.{walkable_sequence}
use Rattle.texts.specs.Reportable.{IsReportable}
use Rattle.symbol_cost.specs.Grid.{Grid}
use Rattle.field_tables.specs.Grids.{HaveCosts}
use Rattle.formats.specs.declared.words.Asked.{Asked}
use Rattle.due.specs.Banks.{Bank, IsBankAnswer, costs_in, duts_of, window_of}
use Rattle.bank.specs.declared.decoding.Decoded.{Decoded}
use Rattle.bank.specs.declared.stop.Stop.{Stop}
use Rattle.bank.specs.Finding.{IsDecoded}

module _ (P Q : ℕ → Type 0) (more : (n : ℕ) → P n → Q n) where
  -- the same keys
  pub keep_least : ((n : ℕ) → Q n → P n) → (first second : Option ℕ) → AreLeastTwo P first second → AreLeastTwo Q first second
  keep_least less None None h = λ n q. h n (less n q)
  keep_least less None (Some l) h = h
  keep_least less (Some k) None h = (more k h.0, λ n q. h.1 n (less n q))
  keep_least less (Some k) (Some l) h = (more k h.0, more l h.1, h.2, λ n q. h.3 n (less n q))

-- where two costs are the same of each sequence, they have the same keys
same_key : (window : Window) (costs others : Costs) (ceiling : ℕ) → ((q : Sequence) → sequence_cost costs window q ≡ sequence_cost others window q)
    → (n : ℕ) → IsWindowKey window costs ceiling n → IsWindowKey window others ceiling n
same_key window costs others ceiling same n (q, is, e) =
    (q, (is.0, subst (λ (c : ℕ). c ≤ ceiling) (same q) is.1), subst (λ (c : ℕ). key_of c q ≡ n) (same q) e)

pub same_least : (window : Window) (costs others : Costs) (ceiling : ℕ) (first second : Option ℕ) → ((q : Sequence) → sequence_cost costs window q ≡ sequence_cost others window q)
    → AreLeastTwo (IsWindowKey window costs ceiling) first second → AreLeastTwo (IsWindowKey window others ceiling) first second
same_least window costs others ceiling first second same =
    keep_least (IsWindowKey window costs ceiling) (IsWindowKey window others ceiling) (same_key window costs others ceiling same)
    (same_key window others costs ceiling (λ q. sym (same q))) first second

-- the sequences of an answer can be shown
pub reportable : (window : Window) (costs : Costs) (ceiling : ℕ) (answer : Answer) → IsWindow window → IsWindowAnswer window costs ceiling answer → IsReportable window answer
reportable window costs ceiling Nothing in_range is = tt
reportable window costs ceiling (Decided c q next) in_range is =
    let walkable = is.0.is_admitted.0.0 in
    (in_range.start, in_range.not_long, walkable_sequence window q in_range.century walkable, walkable)
reportable window costs ceiling (Undecided c q r) in_range is =
    (walkable_sequence window q in_range.century is.0.are_admitted.0.0.0, walkable_sequence window r in_range.century is.0.are_admitted.1.0.0)

-- what is decoded of the grids of a bank's window is decoded of the bank
pub decoded_of_bank : (asked : Asked) (bank : Bank) (window : Window) (grids : List Grid) (ceiling : ℕ) (r : Result Decoded Stop) → window ≡ window_of asked bank.receivers
    → ceiling ≡ bank.ceiling → HaveCosts window grids (costs_in window bank) → IfOk r (λ decoded. decoded.window ≡ window)
    → IfOk r (λ decoded. (costs : Costs) → HaveCosts window grids costs → IsWindowAnswer window costs ceiling decoded.answer)
    → IfOk r (λ decoded. (b : Bank) → HaveCosts window grids (costs_in window b) → decoded.duts ≡ duts_of window b decoded.answer)
    → IfOk r (IsDecoded asked bank)
decoded_of_bank asked bank window grids ceiling (Err stop) is same have windows answers duts = tt
decoded_of_bank asked bank window grids ceiling (Ok decoded) is same have windows answers duts =
    let answer = subst (λ (n : ℕ). IsWindowAnswer window (costs_in window bank) n decoded.answer) same (answers (costs_in window bank) have) in
    record {
      window_is = windows ∙ is;
      answer_is = subst (λ (w : Window). IsBankAnswer w bank decoded.answer) (sym windows) answer;
      duts_are = duts bank have ∙ ap (λ (w : Window). duts_of w bank decoded.answer) (sym windows);
    }
