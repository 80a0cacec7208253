-- Its first line decides.
use Rattle.std.proofs.Common.{inl, inr, refl, arith}
use Rattle.certificates.specs.declared.fault.CertificateLineFault.TheVariants.{Shape}
use Rattle.formats.specs.Refusals.CertificateFault.{BadLine}
use Rattle.sweep_due.specs.JudgeRules.{Bad}
use Rattle.sweep_due.proofs.judge_examples.first_file_without_a_byte.Goals as goal

pub returns : goal.returns
returns c = λ bank. Bad 2 (BadLine 1) (inl (inr (inl (omega arith, 1, Shape, c.bad_lines.ensures.nothing, refl)), refl)) refl
