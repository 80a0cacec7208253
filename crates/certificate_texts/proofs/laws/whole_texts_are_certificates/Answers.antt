-- The lines lead to the end.
use Rattle.std.proofs.Common.{ap, ◌∙◌}
use Rattle.certificates.specs.Texts.{entries_text}
use Rattle.certificates.proofs.LeadLaws.{leads_certificate}
use Rattle.certificate_texts.proofs.laws.whole_texts_are_certificates.Goals as goal

pub returns : goal.returns
returns c bytes read is =
    let found = leads_certificate read is.lead in
    (found.0, record { spelled = found.1; few = found.2; same = is.same ∙ ap entries_text found.3 }, found.3)
