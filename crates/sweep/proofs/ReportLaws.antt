-- What stands after all searches can be reported.
use Rattle.std.proofs.Common.{◌≡◌, List, sym, ap, subst}
use Rattle.signal_base.specs.declared.dut.StationDut.{StationDut}
use Rattle.signal_base.specs.declared.window.Window.{Window}
use Rattle.definitions.specs.declared.answer.Answer.{Answer}
use Rattle.definitions.specs.declared.answer.Answer.TheVariants.{Nothing, Decided, Undecided}
use Rattle.definitions.specs.sequences.Windows.{IsWindow}
use Rattle.definitions.proofs.AnswerLaws.{walkable_sequence}
use Rattle.due.specs.declared.due.Due.TheVariants.{Report}
use Rattle.due.specs.Banks.{Bank, duts_of}
use Rattle.texts.specs.Reportable.{IsReportable}
use Rattle.sweep_due.specs.declared.standing.Standing.{Standing}
use Rattle.sweep_due.specs.Standings.{answer_told, window_told}
use Rattle.sweep_due.specs.SweepRules.{IsSweepReport}
use Rattle.sweep_due.specs.Swept.{IsSweptAnswer, IsToldWindow}
use Rattle.sweep_due.proofs.KeysLaws.{to_legal}

-- the sequences of a swept answer are walkable in the window that is told with it
can_be_reported : (window : Window) (bank : Bank) (answer : Answer) (told : Window) → IsWindow window → IsSweptAnswer window bank answer → IsToldWindow window bank answer told
    → IsReportable told answer
can_be_reported window bank Nothing told in_range is at = tt
can_be_reported window bank (Decided c q next) told in_range is at =
    let legal = is.0.is_admitted.0 in
    subst (λ (w : Window). IsReportable w (Decided c q next)) (sym at.2)
    (in_range.start, in_range.not_long, walkable_sequence window q in_range.century legal.0, (to_legal window _ q legal).0)
can_be_reported window bank (Undecided c q r) told in_range is at =
    (walkable_sequence window q in_range.century is.0.are_admitted.0.0.0, walkable_sequence window r in_range.century is.0.are_admitted.1.0.0)

pub standing_can_be_reported : (window : Window) (bank : Bank) (s : Standing) (answer : Answer) (told : Window) → IsWindow window → answer ≡ answer_told s → told ≡ window_told window s
    → IsSweptAnswer window bank (answer_told s) → IsToldWindow window bank (answer_told s) (window_told window s) → IsReportable told answer
standing_can_be_reported window bank s answer told in_range e f swept at =
    subst (λ (w : Window). IsReportable w answer) (sym f)
    (subst (λ (a : Answer). IsReportable (window_told window s) a) (sym e) (can_be_reported window bank (answer_told s) (window_told window s) in_range swept at))

-- the report of what stands
pub report_is : (window : Window) (bank : Bank) (s : Standing) (answer : Answer) (told : Window) (duts : List StationDut) → answer ≡ answer_told s → told ≡ window_told window s
    → IsSweptAnswer window bank (answer_told s) → IsToldWindow window bank (answer_told s) (window_told window s) → duts ≡ duts_of told bank answer
    → IsSweepReport window bank (Report told answer duts)
report_is window bank s answer told duts e f swept at tells = record {
  answer = answer;
  told = told;
  answer_is = subst (λ (a : Answer). IsSweptAnswer window bank a) (sym e) swept;
  told_is = subst (λ (w : Window). IsToldWindow window bank answer w) (sym f) (subst (λ (a : Answer). IsToldWindow window bank a (window_told window s)) (sym e) at);
  is = ap (Report told answer) tells;
}
