-- The number of bytes, the first line, and the window decide, in this order.
use Rattle.std.proofs.Common.{◌≡◌, inl, inr, refl, ap, arith}
use Rattle.signal_base.specs.declared.window.Window.{Window}
use Rattle.definitions.specs.examples.Sequences.{window_of}
use Rattle.certificates.specs.declared.fault.CertificateLineFault.TheVariants.{Shape}
use Rattle.certificates.specs.declared.verdict.Verdict.TheVariants as found
use Rattle.certificates.specs.Examples.{hour_certificate, two_minutes}
use Rattle.due.specs.declared.check_due.CertificateFault.TheVariants.{BadLine, OtherWindow, TooLarge}
use Rattle.due.specs.CertificateRules.{Bad}
use Rattle.due.proofs.CertificateSizeLaws.{certificate_fits}
use Rattle.due.proofs.certificate_examples.certificates_that_are_refused.Goals as goal

pub returns-clause-large : goal.returns-clause-large
returns-clause-large c = λ window bank bytes many. Bad TooLarge (inl (many, refl)) refl

pub returns-clause-nothing : goal.returns-clause-nothing
returns-clause-nothing c = λ window bank. Bad (BadLine 1) (inr (inl (omega arith, 1, Shape, c.bad_lines.ensures.nothing, refl))) refl

other : two_minutes ≡ window_of 4 700 703 → ⊥
other e = omega (arith, ap (λ (w : Window). w.to) e)

pub returns-clause-other : goal.returns-clause-other
returns-clause-other c = λ bank.
    Bad OtherWindow (inr (inr (certificate_fits hour_certificate c.text_of_an_hour.ensures.is_text.spelled c.text_of_an_hour.ensures.is_text.few, hour_certificate, found.OtherWindow, c.text_of_an_hour.ensures.is_text, inl ((λ is. other is.0), refl), refl))) refl
