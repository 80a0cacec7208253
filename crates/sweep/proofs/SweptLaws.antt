-- What is told of a bank in the order of its stations is told of the bank.
use Rattle.std.proofs.Common.{◌≡◌, ℕ, map, unwrap_or, sym, ap, ◌∙◌, subst}
use Rattle.std.proofs.Math.Path.{fun_ext}
use Rattle.signal_base.specs.declared.window.Window.{Window}
use Rattle.definitions.specs.declared.answer.Answer.{Answer}
use Rattle.definitions.specs.declared.answer.Answer.TheVariants.{Nothing, Decided, Undecided}
use Rattle.definitions.specs.declared.sequence.Sequence.{Sequence}
use Rattle.definitions.specs.answers.Answers.{IsAdmitted, IsAnswer}
use Rattle.definitions.specs.heard.Costs.{Costs, least, sequence_cost}
use Rattle.definitions.specs.sequences.Walks.{IsLegal}
use Rattle.due.specs.declared.due.Due.{Due}
use Rattle.due.specs.declared.due.Due.TheVariants.{Report}
use Rattle.due.specs.Banks.{Bank, ordered}
use Rattle.due.proofs.StationLaws.{same_costs, same_window}
use Rattle.sweep_due.specs.Phases.{swept_offsets, window_at}
use Rattle.sweep_due.specs.SweepOrders.{SweepOrder}
use Rattle.sweep_due.specs.SweepRules.{IsBankSwept, IsSweepReport}
use Rattle.sweep_due.specs.Swept.{IsOffsetOf, IsSweptAnswer, IsToldWindow, IsWindowOf, cost_at, swept_cost}
use Rattle.bank.proofs.EntryLaws.{same_duts}

module _ (window : Window) (bank : Bank) where
  same_cost_at : (q : Sequence) → cost_at window (ordered bank) q ≡ cost_at window bank q
  same_cost_at q = fun_ext (λ (i : ℕ). ap (λ (costs : Costs). sequence_cost costs window q) (same_costs (window_at window i) bank))

  same_swept_cost : swept_cost window (ordered bank) ≡ swept_cost window bank
  same_swept_cost = fun_ext (λ (q : Sequence). ap (λ (cost : ℕ → ℕ). unwrap_or (least (map cost (swept_offsets window.phase))) 0) (same_cost_at q))

  answer_in_order : (answer : Answer) → IsSweptAnswer window (ordered bank) answer → IsSweptAnswer window bank answer
  answer_in_order answer is = subst (λ (cost : Sequence → ℕ). IsAnswer (IsAdmitted (IsLegal window) cost bank.ceiling) cost answer) same_swept_cost is

  offset_in_order : (q : Sequence) (i : ℕ) → IsOffsetOf window (ordered bank) q i → IsOffsetOf window bank q i
  offset_in_order q i is =
      let swept = ap (λ (cost : Sequence → ℕ). cost q) same_swept_cost in
      let at : (j : ℕ) → cost_at window (ordered bank) q j ≡ cost_at window bank q j = (λ j. ap (λ (cost : ℕ → ℕ). cost j) (same_cost_at q)) in
      record {
        swept = is.swept;
        cost = sym (at i) ∙ is.cost ∙ swept;
        least = λ j is_swept e. is.least j is_swept (at j ∙ e ∙ sym swept);
      }

  window_in_order : (q : Sequence) (told : Window) → IsWindowOf window (ordered bank) q told → IsWindowOf window bank q told
  window_in_order q told is = (is.0, offset_in_order q is.0 is.1, is.2)

  told_in_order : (answer : Answer) (told : Window) → IsToldWindow window (ordered bank) answer told → IsToldWindow window bank answer told
  told_in_order Nothing told is = is
  told_in_order (Decided cost q next) told is = window_in_order q told is
  told_in_order (Undecided cost q r) told is = window_in_order q told is

  pub report_in_order : (due : Due) → IsSweepReport window (ordered bank) due → IsSweepReport window bank due
  report_in_order due is = record {
    answer = is.answer;
    told = is.told;
    answer_is = answer_in_order is.answer is.answer_is;
    told_is = told_in_order is.answer is.told is.told_is;
    is = is.is ∙ ap (Report is.told is.answer) (same_duts is.told bank is.answer);
  }

pub swept_in_order : (o : SweepOrder) (bank seen : Bank) (due : Due) → seen ≡ ordered bank → IsBankSwept o seen due → IsBankSwept o bank due
swept_in_order o bank seen due same is =
    let told = subst (λ (b : Bank). IsBankSwept o b due) same is in
    let window = same_window o.asked bank.receivers in
    subst (λ (w : Window). IsSweepReport w bank due) window (report_in_order _ bank due told)
