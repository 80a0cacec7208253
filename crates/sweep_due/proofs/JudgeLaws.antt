-- Of a sweep's certificates one thing is told; and the keys that valid ones name are put together as those that were found.
use Rattle.std.proofs.Common.{◌≡◌, ℕ, ◌<◌, ◌≤◌, ◌⊎◌, inl, inr, List, [], ◌∷◌, Option, refl, sym, ap, ◌∙◌, subst, arith}
use Rattle.signal_base.specs.declared.dut.StationDut.{StationDut}
use Rattle.signal_base.specs.declared.window.Window.{Window}
use Rattle.definitions.specs.declared.answer.Answer.{Answer}
use Rattle.definitions.specs.answers.FirstTwo.{AreLeastTwo, IsWindowKey}
use Rattle.definitions.specs.heard.Costs.{Costs}
use Rattle.definitions.specs.time.Calendar.{century_minutes}
use Rattle.definitions.proofs.BoundExistLaws.{a_bound}
use Rattle.definitions.proofs.BoundLaws.{bounds_one}
use Rattle.formats.specs.Refusals.{CertificateFault}
use Rattle.certificates.specs.Certificates.{Certificate}
use Rattle.certificates.specs.Validity.{IsValid}
use Rattle.certificates.proofs.JudgedLaws as judgement
use Rattle.due.specs.declared.due.Due.{Due}
use Rattle.due.specs.declared.due.Due.TheVariants.{Report}
use Rattle.due.specs.Banks.{Bank, costs_in, duts_of}
use Rattle.sweep_due.specs.declared.offsets.TheConstants.{PHASE_LIMIT}
use Rattle.sweep_due.specs.declared.standing.Standing.{Standing}
use Rattle.sweep_due.specs.JudgeRules.{AreGood, Bad, Files, Good, IsBadAt, IsFirstBad, IsGoodAt, IsJudged, IsNamed, JudgeDue}
use Rattle.sweep_due.specs.JudgeRules.JudgeDue.{Certified, NotCertified}
use Rattle.sweep_due.specs.Phases.{swept_offsets, window_at}
use Rattle.sweep_due.specs.Searches.{IsKeyAt, IsSearched}
use Rattle.sweep_due.specs.SweepRules.{IsSweepReport}
use Rattle.sweep_due.proofs.SearchLaws.{not_above_the_bank}
use Rattle.sweep_due.proofs.SweepDueLaws.{one_report, some_report}

same_fault : (a b : ℕ) (f g : CertificateFault) (x y : JudgeDue) → (a ≡ b) × (f ≡ g) → x ≡ NotCertified a f → y ≡ NotCertified b g → x ≡ y
same_fault a b f g x y (e, h) i j = cc

parts : (v w : Window) (a b : Answer) (d e : List StationDut) → Report v a d ≡ Report w b e → (v ≡ w) × (a ≡ b) × (d ≡ e)
parts v w a b d e same = (cc, cc, cc)

same_report : (v w : Window) (a b : Answer) (d e : List StationDut) (x y : JudgeDue) → (v ≡ w) × (a ≡ b) × (d ≡ e) → x ≡ Certified v a d → y ≡ Certified w b e → x ≡ y
same_report v w a b d e x y (f, g, h) i j = cc

module _ (window : Window) (bank : Bank) (files : Files) where
  abbrev costs : ℕ → Costs
  costs i = costs_in (window_at window i) bank

  one_bad : (i : ℕ) (f g : CertificateFault) → IsBadAt window bank files i f → IsBadAt window bank files i g → f ≡ g
  one_bad i f g bad also = judgement.one_fault (costs i) (window_at window i) bank.ceiling (λ c. a_bound (costs i) (window_at window i) c) (λ c. bounds_one (costs i) (window_at window i) c) (files i) f g bad also

  good_or_bad : (i : ℕ) → ((first : Option ℕ) × (second : Option ℕ) × IsGoodAt window bank files i first second) ⊎ ((f : CertificateFault) × IsBadAt window bank files i f)
  good_or_bad i = judgement.judged (costs i) (window_at window i) bank.ceiling (λ c. a_bound (costs i) (window_at window i) c) (λ c. bounds_one (costs i) (window_at window i) c) (files i)

  not_both_at : (i : ℕ) (f : CertificateFault) → (first : Option ℕ) × (second : Option ℕ) × IsGoodAt window bank files i first second → IsBadAt window bank files i f → ⊥
  not_both_at i f (first, second, good) bad =
      judgement.not_both (costs i) (window_at window i) bank.ceiling (λ c. a_bound (costs i) (window_at window i) c) (λ c. bounds_one (costs i) (window_at window i) c) (files i) first second f good bad

  not_both : (is : List ℕ) (o : ℕ) (f : CertificateFault) → AreGood window bank files is → IsFirstBad window bank files is o f → ⊥
  not_both [] o f good bad = bad
  not_both (i ∷ is) o f good (inl bad) = not_both_at i f good.0 bad.0
  not_both (i ∷ is) o f good (inr bad) = not_both is o f good.1 bad.1

  one_first : (is : List ℕ) (o p : ℕ) (f g : CertificateFault) → IsFirstBad window bank files is o f → IsFirstBad window bank files is p g → (o ≡ p) × (f ≡ g)
  one_first [] o p f g bad also = absurd bad
  one_first (i ∷ is) o p f g (inl bad) (inl also) = (bad.1 ∙ sym also.1, one_bad i f g bad.0 also.0)
  one_first (i ∷ is) o p f g (inl bad) (inr also) = absurd (not_both_at i f also.0 bad.0)
  one_first (i ∷ is) o p f g (inr bad) (inl also) = absurd (not_both_at i g bad.0 also.0)
  one_first (i ∷ is) o p f g (inr bad) (inr also) = one_first is o p f g bad.1 also.1

  judged_along : (is : List ℕ) → AreGood window bank files is ⊎ ((o : ℕ) × (f : CertificateFault) × IsFirstBad window bank files is o f)
  judged_along [] = inl tt
  judged_along (i ∷ is) = elim (good_or_bad i) [
    | inr bad ↦ inr (i, bad.0, inl (bad.1, refl))
    | inl good ↦ elim (judged_along is) [ inl rest ↦ inl (good, rest) | inr bad ↦ inr (bad.0, bad.1, inr (good, bad.2)) ]
  ]

  pub one_judged : window.to ≤ century_minutes → (x y : JudgeDue) → IsJudged window bank files x → IsJudged window bank files y → x ≡ y
  one_judged century x y (Bad o f bad e) (Bad p g also h) = same_fault o p f g x y (one_first (swept_offsets window.phase) o p f g bad also) e h
  one_judged century x y (Bad o f bad e) (Good good v a d is h) = absurd (not_both (swept_offsets window.phase) o f good bad)
  one_judged century x y (Good good v a d is e) (Bad o f bad h) = absurd (not_both (swept_offsets window.phase) o f good bad)
  one_judged century x y (Good good v a d is e) (Good also w b t too h) =
      same_report v w a b d t x y (parts v w a b d t (one_report window bank century (Report v a d) (Report w b t) is too)) e h

  pub some_judged : window.to ≤ century_minutes → window.phase < PHASE_LIMIT → (due : JudgeDue) × IsJudged window bank files due
  some_judged century phase = go (judged_along (swept_offsets window.phase)) (some_report window bank century phase)
    where
      go : AreGood window bank files (swept_offsets window.phase) ⊎ ((o : ℕ) × (f : CertificateFault) × IsFirstBad window bank files (swept_offsets window.phase) o f)
          → (due : Due) × IsSweepReport window bank due → (due : JudgeDue) × IsJudged window bank files due
      go (inr bad) found = (NotCertified bad.0 bad.1, Bad bad.0 bad.1 bad.2 refl)
      go (inl good) (due, is) =
          let d = duts_of is.told bank is.answer in
          (Certified is.told is.answer d, Good good is.told is.answer d (subst (IsSweepReport window bank) is.is is) refl)

  -- what the certificates at some offsets name, put together, is what searches there find
  pub named_is_searched : ((costs : Costs) (w : Window) (ceiling : ℕ) (c : Certificate) → IsValid costs w ceiling c → AreLeastTwo (IsWindowKey w costs ceiling) c.head.first c.head.second)
      → (offsets : List ℕ) (s : Standing) → IsNamed window bank files offsets s → IsSearched window bank offsets s
  named_is_searched names [] s is = is
  named_is_searched names (i ∷ earlier) s (before, named, first, second, good, e) =
      let least = names (costs i) (window_at window i) bank.ceiling good.certificate good.valid in
      let a = subst (λ (x : Option ℕ). AreLeastTwo (IsKeyAt window bank bank.ceiling i) x good.certificate.head.second) (sym good.first_is) least in
      let b = subst (λ (y : Option ℕ). AreLeastTwo (IsKeyAt window bank bank.ceiling i) first y) (sym good.second_is) a in (
        before,
        named_is_searched names earlier before named,
        record { ceiling = bank.ceiling; not_below = not_above_the_bank bank.ceiling before.second; not_above = omega arith; found = (first, second, b, e) },
      )
