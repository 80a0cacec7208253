-- The lines, joined.
use Rattle.std.proofs.Common.{ap, ◌∙◌, ◌++◌, ℕ, Some, codes}
use Rattle.formats.specs.Bytes.{line}
use Rattle.formats.specs.Refusals.{named_key}
use Rattle.certificate_texts.proofs.LineLaws.{head_joined}
use Rattle.certificate_texts.proofs.lines.head_text.Goals as goal

pub returns : goal.returns
returns c =
    head_joined _ _ _ _ _ _ _ _ _ _ _ _ _ _ _ _ _ _ _ _ _ _ _ c.new-text.ensures
    (c.push_told.ensures.bytes ∙ ap (λ (n : ℕ). c.new-text.result.bytes ++ line (codes "tsbank certificate " ++ named_key (Some n))) c.version_of.ensures)
    c.push_stations.ensures.bytes c.push_told-2.ensures.bytes c.push_told-3.ensures.bytes c.push_told-4.ensures.bytes c.push_told-5.ensures.bytes
    c.push_told-6.ensures.bytes c.push_told-7.ensures.bytes c.push_told-8.ensures.bytes c.push_told-9.ensures.bytes c.push_told-10.ensures.bytes
