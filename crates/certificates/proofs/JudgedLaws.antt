-- Bytes are a valid certificate, or there is one fault that is told of them.
use Rattle.std.proofs.Common.{◌≡◌, ℕ, ◌<◌, ◌≤◌, ◌⊎◌, inl, inr, List, length, Option, Some, None, refl, sym, ap, ◌∙◌, subst, arith}
use Rattle.std.proofs.lemmas.Bool.{cases_lt}
use Rattle.signal_base.specs.declared.window.Window.{Window}
use Rattle.definitions.specs.declared.block.Block.{Block}
use Rattle.definitions.specs.heard.Costs.{Costs}
use Rattle.definitions.specs.answers.Blocks.{IsBound}
use Rattle.formats.specs.Refusals.{CertificateFault}
use Rattle.formats.specs.Refusals.CertificateFault.{TooLarge, OtherWindow, Uncovered, WrongBound, NotAbove, WrongEnds}
use Rattle.certificates.specs.declared.limits.TheConstants.{CERTIFICATE_LIMIT}
use Rattle.certificates.specs.declared.verdict.Verdict.{Verdict}
use Rattle.certificates.specs.declared.verdict.Verdict.TheVariants as found
use Rattle.certificates.specs.Certificates.{Certificate}
use Rattle.certificates.specs.Texts.{HasOutcome, IsText}
use Rattle.certificates.specs.Verdicts.{IsVerdict}
use Rattle.certificates.specs.Judged.{IsBadCertificate, IsGoodCertificate, line_fault, verdict_fault}
use Rattle.certificates.proofs.OutcomeLaws.{one_certificate, one_refusal, text_has_outcome, text_not_refused}
use Rattle.certificates.proofs.VerdictLaws.{certified_valid, decide_of, one_verdict, some_verdict, valid_certified}

module _ (costs : Costs) (window : Window) (ceiling : ℕ) (some_bound : (b : Block) → (m : Option ℕ) × IsBound costs window b m)
    (one_bound : (b : Block) (m n : Option ℕ) → IsBound costs window b m → IsBound costs window b n → m ≡ n) (bytes : List ℕ) where
  abbrev Bad : CertificateFault → Type 0
  Bad = IsBadCertificate costs window ceiling bytes

  abbrev Good : Option ℕ → Option ℕ → Type 0
  Good = IsGoodCertificate costs window ceiling bytes

  abbrev IsJudged : Type 0
  IsJudged = ((first : Option ℕ) × (second : Option ℕ) × Good first second) ⊎ ((fault : CertificateFault) × Bad fault)

  abbrev Fits : Type 0
  Fits = length bytes ≤ CERTIFICATE_LIMIT

  bad_by : (few : length bytes ≤ CERTIFICATE_LIMIT) (c : Certificate) (v : Verdict) (fault : CertificateFault) → IsText c bytes → IsVerdict costs window ceiling c v
      → verdict_fault v ≡ Some fault → IsJudged
  bad_by few c v fault text is tells = inr (fault, inr (inr (few, c, v, text, is, tells)))

  of_verdict : (few : length bytes ≤ CERTIFICATE_LIMIT) (c : Certificate) (v : Verdict) → IsText c bytes → IsVerdict costs window ceiling c v → IsJudged
  of_verdict few c found.Certified text is =
      inl (
        c.head.first,
        c.head.second,
        record {
          certificate = c;
          few = few;
          text = text;
          valid = certified_valid costs window some_bound one_bound ceiling c text.spelled is;
          first_is = refl;
          second_is = refl;
        },
      )
  of_verdict few c found.OtherWindow text is = bad_by few c found.OtherWindow OtherWindow text is refl
  of_verdict few c (found.Uncovered step) text is = bad_by few c (found.Uncovered step) (Uncovered step) text is refl
  of_verdict few c (found.WrongBound step) text is = bad_by few c (found.WrongBound step) (WrongBound step) text is refl
  of_verdict few c (found.NotAbove step) text is = bad_by few c (found.NotAbove step) (NotAbove step) text is refl
  of_verdict few c (found.WrongEnds key) text is = bad_by few c (found.WrongEnds key) (WrongEnds key) text is refl

  pub judged : IsJudged
  judged = by_size (cases_lt CERTIFICATE_LIMIT (length bytes)) (text_has_outcome bytes)
    where
      by_size : (CERTIFICATE_LIMIT < length bytes) ⊎ (length bytes ≤ CERTIFICATE_LIMIT) → HasOutcome bytes → IsJudged
      by_size (inl many) outcome = inr (TooLarge, inl (many, refl))
      by_size (inr few) (inl h) =
          let found = some_verdict costs window some_bound one_bound ceiling h.0 (decide_of window ceiling h.0) in
          of_verdict few h.0 found.0 h.1 found.1
      by_size (inr few) (inr h) = inr (line_fault h.0 h.1, inr (inl (few, h.0, h.1, h.2, refl)))

  -- certificates of the same bytes are the same, and so are their verdicts
  same_verdict : (c d : Certificate) (v w : Verdict) → IsText c bytes → IsText d bytes → IsVerdict costs window ceiling c v → IsVerdict costs window ceiling d w → v ≡ w
  same_verdict c d v w text also is k =
      one_verdict costs window some_bound one_bound ceiling d v w
      (subst (λ e. IsVerdict costs window ceiling e v) (one_certificate bytes c d text also) is) k

  same_some : (a b : CertificateFault) → Some a ≡ Some b → a ≡ b
  same_some a b e = cc

  pub one_fault : (a b : CertificateFault) → Bad a → Bad b → a ≡ b
  one_fault a b (inl h) (inl k) = h.1 ∙ sym k.1
  one_fault a b (inl h) (inr (inl k)) = absurd (omega (arith, h.0, k.0))
  one_fault a b (inl h) (inr (inr k)) = absurd (omega (arith, h.0, k.0))
  one_fault a b (inr (inl h)) (inl k) = absurd (omega (arith, h.0, k.0))
  one_fault a b (inr (inl h)) (inr (inl k)) =
      let same = one_refusal bytes h.1 k.1 h.2 k.2 h.3 k.3 in
      h.4 ∙ ((λ i. line_fault (same.0 i) (same.1 i)) ∙ sym k.4)
  one_fault a b (inr (inl h)) (inr (inr k)) = absurd (text_not_refused bytes k.1 h.1 h.2 k.3 h.3)
  one_fault a b (inr (inr h)) (inl k) = absurd (omega (arith, h.0, k.0))
  one_fault a b (inr (inr h)) (inr (inl k)) = absurd (text_not_refused bytes h.1 k.1 k.2 h.3 k.3)
  one_fault a b (inr (inr h)) (inr (inr k)) =
      let same = same_verdict h.1 k.1 h.2 k.2 h.3 k.3 h.4 k.4 in
      same_some a b (sym h.5 ∙ (ap verdict_fault same ∙ k.5))

  none_some : (a : CertificateFault) → None ≡ Some a → ⊥
  none_some a e = absurd cc

  pub not_both : (first second : Option ℕ) (fault : CertificateFault) → Good first second → Bad fault → ⊥
  not_both first second fault good (inl h) = omega (arith, h.0, good.few)
  not_both first second fault good (inr (inl h)) = text_not_refused bytes good.certificate h.1 h.2 good.text h.3
  not_both first second fault good (inr (inr h)) =
      let same = same_verdict good.certificate h.1 found.Certified h.2 good.text h.3 (valid_certified costs window some_bound one_bound ceiling good.certificate good.valid) h.4 in
      none_some fault (ap verdict_fault same ∙ h.5)

  pub one_pair : (a b f s : Option ℕ) → Good a b → Good f s → (a ≡ f) × (b ≡ s)
  one_pair a b f s h k =
      let same = one_certificate bytes h.certificate k.certificate h.text k.text in
      (h.first_is ∙ (ap (λ (c : Certificate). c.head.first) same ∙ sym k.first_is), h.second_is ∙ (ap (λ (c : Certificate). c.head.second) same ∙ sym k.second_is))
