-- What is told of bytes by the grids is told of them for any bank that heard what these say.
use Rattle.std.proofs.Common.{rules, ◌≡◌, ℕ, ◌%◌, ◌^◌, ◌<◌, List, Option, Some, None, option_map, refl, sym, ap, ◌∙◌, subst}
use Rattle.std.specs.Option.{ForSome}
use Rattle.signal_base.specs.declared.dut.StationDut.{StationDut}
use Rattle.signal_base.specs.declared.window.Window.{Window}
use Rattle.definitions.specs.declared.answer.Answer.{Answer}
use Rattle.definitions.specs.answers.Answers.{IsWindowAnswer}
use Rattle.definitions.specs.answers.FirstTwo.{answer_from}
use Rattle.definitions.specs.heard.Costs.{Costs}
use Rattle.definitions.specs.sequences.Keys.{index_end}
use Rattle.formats.specs.Refusals.{CertificateFault}
use Rattle.plain_costs.specs.Agreement.{AgreeOn}
use Rattle.certificates.specs.Certificates.{CanBeNamed, Certificate}
use Rattle.certificates.specs.Judged.{IsBadCertificate, IsGoodCertificate}
use Rattle.certificates.specs.Validity.{IsValid}
use Rattle.due.specs.declared.check_due.CertificateFault.{CertificateFault as ToldFault}
use Rattle.due.specs.declared.check_due.CheckDue.TheVariants.{Certified, NotCertified}
use Rattle.due.specs.Banks.{Bank, costs_in, duts_of}
use Rattle.due.specs.CertificateRules.{Bad, Good, IsChecked, certified}
use Rattle.due.specs.CheckDues.{fault_of}
use Rattle.checks.proofs.CostLaws.{bad_by, good_by}

module _ (window : Window) (costs : Costs) (ceiling : ℕ) (bytes : List ℕ) where
  module _ (bank : Bank) (agree : AgreeOn window costs (costs_in window bank)) (same : ceiling ≡ bank.ceiling) where
    pub bad_told : (fault : CertificateFault) (told : ToldFault) → fault_of told ≡ fault → IsBadCertificate costs window ceiling bytes fault
        → IsChecked window bank bytes (NotCertified told)
    bad_told fault told e bad =
        Bad told
        (subst (λ (n : ℕ). IsBadCertificate (costs_in window bank) window n bytes (fault_of told)) same
        (bad_by window costs (costs_in window bank) agree ceiling bytes (fault_of told)
        (subst (λ (f : CertificateFault). IsBadCertificate costs window ceiling bytes f) (sym e) bad))) refl

    pub good_told : (first second : Option ℕ) (answer : Answer) (duts : List StationDut) → answer ≡ answer_from first second → duts ≡ duts_of window bank answer
        → IsGoodCertificate costs window ceiling bytes first second → IsChecked window bank bytes (Certified window answer duts)
    good_told first second answer duts e f good =
        Good first second
        (subst (λ (n : ℕ). IsGoodCertificate (costs_in window bank) window n bytes first second) same
        (good_by window costs (costs_in window bank) agree ceiling bytes first second good))
        (ap (Certified window answer) f ∙ ap (certified window bank) e)

  -- the named keys give the answer by the grids
  pub named_answer : ((c : Certificate) → IsValid costs window ceiling c → IsWindowAnswer window costs ceiling (answer_from c.head.first c.head.second)) → (first second : Option ℕ)
      → IsGoodCertificate costs window ceiling bytes first second → (answer : Answer) → answer ≡ answer_from first second → IsWindowAnswer window costs ceiling answer
  named_answer gives first second good answer e =
      let named : answer ≡ answer_from good.certificate.head.first good.certificate.head.second =
      e ∙ (λ i. answer_from (good.first_is i) (good.second_is i)) in
      subst (λ (a : Answer). IsWindowAnswer window costs ceiling a) (sym named) (gives good.certificate good.valid)

-- a fault that is told is the one that there is
pub some_fault : (told : Option ToldFault) (fault : ToldFault) (found : Option CertificateFault) → option_map fault_of told ≡ found → told ≡ Some fault → found ≡ Some (fault_of fault)
some_fault told fault found e f = sym e ∙ ap (option_map fault_of) f

pub no_fault : (told : Option ToldFault) (found : Option CertificateFault) → option_map fault_of told ≡ found → told ≡ None → found ≡ None
no_fault told found e f = sym e ∙ ap (option_map fault_of) f

-- a key that can be named has the index of a sequence
pub named_index : (key named : Option ℕ) → key ≡ named → CanBeNamed named → ForSome key (λ k. k % 2 ^ 33 < index_end)
named_index key named same can = subst (λ (o : Option ℕ). ForSome o (λ k. k % 2 ^ 33 < index_end)) (sym same) (index_of named can)
  where
    index_of : (o : Option ℕ) → CanBeNamed o → ForSome o (λ k. k % 2 ^ 33 < index_end)
    index_of None can = search rules
    index_of (Some k) can = λ x e. let same : k ≡ x = cc in subst (λ n. n % 2 ^ 33 < index_end) same can.0
