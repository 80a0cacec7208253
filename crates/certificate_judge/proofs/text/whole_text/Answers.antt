-- The lines are those of a certificate.
use Rattle.std.proofs.Common.{◌∙◌}
use Rattle.certificate_judge.proofs.HeadingLaws.{whole_heading, whole_steps}
use Rattle.certificate_judge.proofs.KeptLaws.{whole_starts}
use Rattle.certificate_judge.proofs.text.whole_text.Goals as goal

pub returns-clause-read : goal.returns-clause-read
returns-clause-read c =
    let kept = c.in_ok-kept.ensures.whole in
    let text = c.whole_texts_are_certificates.ensures c.args.bytes.now kept.read kept.whole in record {
      certificate = text.0;
      is_text = text.1;
      tells = record {
        head_is = c.head_of-head.ensures text.0.head text.1.spelled.window text.1.spelled.ceiling
            (kept.kept_is.heading_is ∙ whole_heading text.0 kept.read text.2);
        lines_are = kept.kept_is.lines_are ∙ whole_steps text.0 kept.read text.2;
        starts_are = kept.kept_is.starts_are ∙ whole_starts text.0 kept.read text.2;
      };
    }
