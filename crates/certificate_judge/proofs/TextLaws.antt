-- What comes of a text is one.
use Rattle.std.proofs.Common.{◌≡◌, ℕ, List, refl, subst, rules}
use Rattle.certificates.specs.declared.fault.CertificateLineFault.{CertificateLineFault}
use Rattle.certificates.specs.Certificates.{Certificate}
use Rattle.certificates.specs.Texts.{IsRefused, IsText}
use Rattle.certificate_judge.specs.declared.text.CertificateText.{CertificateText}
use Rattle.certificate_judge.specs.declared.text_fault.TextFault.{TextFault}
use Rattle.certificate_judge.specs.declared.text_fault.TextFault.TheVariants.{Refused, NoMemory}
use Rattle.certificate_judge.specs.WholeTexts.{IsFaultOf, IsReadFrom, Names, Tells}

module _ (bytes : List ℕ) where
  pub read_is : ((a b : Certificate) → IsText a bytes → IsText b bytes → a ≡ b) → (text : CertificateText) (c : Certificate) → IsReadFrom text bytes → IsText c bytes → Tells text c
  read_is one text c read is = subst (Tells text) (one read.certificate c read.is_text is) read.tells

  pub fault_is : ((m n : ℕ) (a b : CertificateLineFault) → IsRefused bytes m a → IsRefused bytes n b → (m ≡ n) × (a ≡ b))
      → (f : TextFault) (line : ℕ) (fault : CertificateLineFault) → IsFaultOf bytes f → IsRefused bytes line fault → Names f line fault
  fault_is one (Refused number wrong) line fault refused is = one number line wrong fault refused is
  fault_is one NoMemory line fault refused is = search rules
