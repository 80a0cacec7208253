-- What comes of bytes: there is one outcome, which is a valid certificate or a fault.
use Rattle.std.proofs.Common.{◌≡◌, ℕ, ◌<◌, ◌≤◌, ◌⊎◌, inl, inr, List, length, Option, Some, None, refl, sym, ap, ◌∙◌, subst, arith}
use Rattle.std.proofs.lemmas.Bool.{cases_lt}
use Rattle.signal_base.specs.declared.window.Window.{Window}
use Rattle.definitions.specs.declared.block.Block.{Block}
use Rattle.definitions.specs.heard.Costs.{Costs}
use Rattle.definitions.specs.answers.Blocks.{IsBound}
use Rattle.formats.specs.Refusals.{CertificateFault}
use Rattle.formats.specs.Refusals.CertificateFault.{TooLarge as Too_large}
use Rattle.certificates.specs.declared.fault.CertificateLineFault.{CertificateLineFault}
use Rattle.certificates.specs.declared.limits.TheConstants.{CERTIFICATE_LIMIT}
use Rattle.certificates.specs.declared.verdict.Verdict.{Verdict}
use Rattle.certificates.specs.declared.verdict.Verdict.TheVariants as found
use Rattle.certificates.specs.Certificates.{Certificate}
use Rattle.certificates.specs.Judged.{IsBadCertificate, IsGoodCertificate, line_fault, verdict_fault}
use Rattle.certificates.specs.Texts.{HasOutcome}
use Rattle.certificates.specs.Verdicts.{IsVerdict}
use Rattle.certificates.proofs.OutcomeLaws.{one_certificate, one_refusal, text_has_outcome, text_not_refused}
use Rattle.certificates.proofs.VerdictLaws.{certified_valid, decide_of, one_verdict, some_verdict}
use Rattle.certificate_judge.specs.declared.outcome.Outcome.{Outcome}
use Rattle.certificate_judge.specs.declared.outcome.Outcome.TheVariants.{TooLarge, Refused, Judged}
use Rattle.certificate_judge.specs.Outcomes.{HasVerdict, IsOutcome, first_named, outcome_fault, second_named}

module _ (costs : Costs) (window : Window) (ceiling : ℕ) (some_bound : (b : Block) → (m : Option ℕ) × IsBound costs window b m)
    (one_bound : (b : Block) (m n : Option ℕ) → IsBound costs window b m → IsBound costs window b n → m ≡ n) (bytes : List ℕ) where
  abbrev Is : Outcome → Type 0
  Is = IsOutcome costs window ceiling bytes

  pub some_outcome : (o : Outcome) × Is o
  some_outcome = by_size (cases_lt CERTIFICATE_LIMIT (length bytes)) (text_has_outcome bytes)
    where
      by_size : (CERTIFICATE_LIMIT < length bytes) ⊎ (length bytes ≤ CERTIFICATE_LIMIT) → HasOutcome bytes → (o : Outcome) × Is o
      by_size (inl many) outcome = (TooLarge, many)
      by_size (inr few) (inl h) =
          let verdict = some_verdict costs window some_bound one_bound ceiling h.0 (decide_of window ceiling h.0) in
          (Judged verdict.0 h.0.head.first h.0.head.second, (few, record { certificate = h.0; text = h.1; is = verdict.1; first_is = refl; second_is = refl }))
      by_size (inr few) (inr h) = (Refused h.0 h.1, (few, h.2))

  same_judged : (v w : Verdict) (f s g t : Option ℕ) → HasVerdict costs window ceiling bytes v f s → HasVerdict costs window ceiling bytes w g t
      → Judged v f s ≡ Judged w g t
  same_judged v w f s g t h k =
      let same = one_certificate bytes h.certificate k.certificate h.text k.text in
      let verdict = one_verdict costs window some_bound one_bound ceiling k.certificate v w
      (subst (λ (c : Certificate). IsVerdict costs window ceiling c v) same h.is) k.is in
      let first = h.first_is ∙ (ap (λ (c : Certificate). c.head.first) same ∙ sym k.first_is) in
      let second = h.second_is ∙ (ap (λ (c : Certificate). c.head.second) same ∙ sym k.second_is) in
      (λ i. Judged (verdict i) (first i) (second i))

  same_refused : (m n : ℕ) (a b : CertificateLineFault) → (m ≡ n) × (a ≡ b) → Refused m a ≡ Refused n b
  same_refused m n a b same = λ i. Refused (same.0 i) (same.1 i)

  pub one_outcome : (a b : Outcome) → Is a → Is b → a ≡ b
  one_outcome TooLarge TooLarge h k = refl
  one_outcome TooLarge (Refused n b) h k = absurd (omega (arith, h, k.0))
  one_outcome TooLarge (Judged w g t) h k = absurd (omega (arith, h, k.0))
  one_outcome (Refused m a) TooLarge h k = absurd (omega (arith, h.0, k))
  one_outcome (Refused m a) (Refused n b) h k = same_refused m n a b (one_refusal bytes m n a b h.1 k.1)
  one_outcome (Refused m a) (Judged w g t) h k = absurd (text_not_refused bytes k.1.certificate m a k.1.text h.1)
  one_outcome (Judged v f s) TooLarge h k = absurd (omega (arith, h.0, k))
  one_outcome (Judged v f s) (Refused n b) h k = absurd (text_not_refused bytes h.1.certificate n b h.1.text k.1)
  one_outcome (Judged v f s) (Judged w g t) h k = same_judged v w f s g t h.1 k.1

  same_some : (a b : CertificateFault) → Some a ≡ Some b → a ≡ b
  same_some a b e = cc

  pub bad_outcome : (o : Outcome) (fault : CertificateFault) → Is o → outcome_fault o ≡ Some fault → IsBadCertificate costs window ceiling bytes fault
  bad_outcome TooLarge fault h e = inl (h, sym (same_some Too_large fault e))
  bad_outcome (Refused line wrong) fault h e = inr (inl (h.0, line, wrong, h.1, sym (same_some (line_fault line wrong) fault e)))
  bad_outcome (Judged v f s) fault h e = inr (inr (h.0, h.1.certificate, v, h.1.text, h.1.is, e))

  good_verdict : (v : Verdict) (f s : Option ℕ) → length bytes ≤ CERTIFICATE_LIMIT → HasVerdict costs window ceiling bytes v f s → verdict_fault v ≡ None
      → IsGoodCertificate costs window ceiling bytes f s
  good_verdict found.Certified f s few h e = record {
    certificate = h.certificate;
    few = few;
    text = h.text;
    valid = certified_valid costs window some_bound one_bound ceiling h.certificate h.text.spelled h.is;
    first_is = h.first_is;
    second_is = h.second_is;
  }
  good_verdict found.OtherWindow f s few h e = absurd cc
  good_verdict (found.Uncovered step) f s few h e = absurd cc
  good_verdict (found.WrongBound step) f s few h e = absurd cc
  good_verdict (found.NotAbove step) f s few h e = absurd cc
  good_verdict (found.WrongEnds key) f s few h e = absurd cc

  pub good_outcome : (o : Outcome) → Is o → outcome_fault o ≡ None → IsGoodCertificate costs window ceiling bytes (first_named o) (second_named o)
  good_outcome TooLarge h e = absurd cc
  good_outcome (Refused line wrong) h e = absurd cc
  good_outcome (Judged v f s) h e = good_verdict v f s h.0 h.1 e
