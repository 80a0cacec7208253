-- What is certified is the swept answer, and all certificates are valid.
use Rattle.std.proofs.Common.{◌≡◌, List, refl, subst}
use Rattle.signal_base.specs.declared.dut.StationDut.{StationDut}
use Rattle.signal_base.specs.declared.window.Window.{Window}
use Rattle.definitions.specs.declared.answer.Answer.{Answer}
use Rattle.due.specs.declared.due.Due.TheVariants.{Report}
use Rattle.due.specs.Banks.{Bank, duts_of}
use Rattle.sweep_due.specs.JudgeRules.{AreGood, Bad, Files, Good, IsJudged}
use Rattle.sweep_due.specs.JudgeRules.JudgeDue.{Certified, NotCertified}
use Rattle.sweep_due.specs.Phases.{swept_offsets}
use Rattle.sweep_due.specs.SweepRules.{IsSweepReport}
use Rattle.sweep_due.specs.Swept.{IsSweptAnswer, IsToldWindow}

-- that an answer and a window are swept, and what is told of DUT1
abbrev IsSwept : Window → Bank → Window → Answer → List StationDut → Type 0
IsSwept window bank told answer duts = IsSweptAnswer window bank answer × IsToldWindow window bank answer told × (duts ≡ duts_of told bank answer)

module _ (window : Window) (bank : Bank) (files : Files) where
  fields : (v w : Window) (a b : Answer) (d e : List StationDut) → Report v a d ≡ Report w b e → (w ≡ v) × (b ≡ a) × (e ≡ d)
  fields v w a b d e same = (cc, cc, cc)

  told_fields : (v w : Window) (a b : Answer) (d e : List StationDut) → Certified v a d ≡ Certified w b e → (w ≡ v) × (b ≡ a) × (e ≡ d)
  told_fields v w a b d e same = (cc, cc, cc)

  reported : (told : Window) (answer : Answer) (duts : List StationDut) → IsSweepReport window bank (Report told answer duts) → IsSwept window bank told answer duts
  reported told answer duts is =
      let same = fields told is.told answer is.answer duts (duts_of is.told bank is.answer) is.is in
      let all : IsSwept window bank is.told is.answer (duts_of is.told bank is.answer) = (is.answer_is, is.told_is, refl) in
      subst (λ (d : List StationDut). IsSwept window bank told answer d) same.2
      (subst (λ (a : Answer). IsSwept window bank told a (duts_of is.told bank is.answer)) same.1
      (subst (λ (w : Window). IsSwept window bank w is.answer (duts_of is.told bank is.answer)) same.0 all))

  pub swept_answer : (told : Window) (answer : Answer) (duts : List StationDut) → IsJudged window bank files (Certified told answer duts)
      → IsSweptAnswer window bank answer × IsToldWindow window bank answer told × (duts ≡ duts_of told bank answer)
  swept_answer told answer duts (Bad offset fault bad e) = absurd (let f : Certified told answer duts ≡ NotCertified offset fault = e in cc)
  swept_answer told answer duts (Good good v a d is e) =
      let same = told_fields told v answer a duts d e in
      subst (λ (x : List StationDut). IsSwept window bank told answer x) same.2
      (subst (λ (x : Answer). IsSwept window bank told x d) same.1
      (subst (λ (x : Window). IsSwept window bank x a d) same.0 (reported v a d is)))

  pub all_good : (told : Window) (answer : Answer) (duts : List StationDut) → IsJudged window bank files (Certified told answer duts)
      → AreGood window bank files (swept_offsets window.phase)
  all_good told answer duts (Bad offset fault bad e) = absurd (let f : Certified told answer duts ≡ NotCertified offset fault = e in cc)
  all_good told answer duts (Good good v a d is e) = good
