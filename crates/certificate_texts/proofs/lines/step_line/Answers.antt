-- The fields, joined.
use Rattle.std.proofs.Common.{ap, ◌∙◌, ◌++◌, List, ℕ}
use Rattle.std.specs.Fmt.{decimal}
use Rattle.formats.specs.Refusals.{named_key}
use Rattle.certificates.specs.Texts.{announced_text, kind_text, span_text}
use Rattle.certificate_texts.proofs.LineLaws.{step_joined}
use Rattle.certificate_texts.proofs.lines.step_line.Goals as goal

pub returns : goal.returns
returns c =
    let l = c.args.step.now in
    step_joined _ _ _ _ _ _ _ _ _ _ _ _ _ _ _ (kind_text l.kind) (span_text l.block.span) (announced_text l.block.announced) (decimal l.block.second) (decimal l.block.lo)
    (decimal l.block.hi) (named_key l.bound) c.new-text.ensures
    (c.push_str.ensures.bytes ∙ ap (λ (x : List ℕ). c.new-text.result.bytes ++ x) c.kind_word.ensures.word) c.push_str-2.ensures.bytes
    (c.push_str-3.ensures.bytes ∙ ap (λ (x : List ℕ). c.push_str-2.new.self.bytes ++ x) c.span_word.ensures.word) c.push_str-4.ensures.bytes
    (c.push_str-5.ensures.bytes ∙ ap (λ (x : List ℕ). c.push_str-4.new.self.bytes ++ x) c.announced_word.ensures.word) c.push_str-6.ensures.bytes
    c.push_number.ensures.bytes c.push_str-7.ensures.bytes c.push_number-2.ensures.bytes c.push_str-8.ensures.bytes c.push_number-3.ensures.bytes c.push_str-9.ensures.bytes
    (c.push_named.ensures.bytes ∙ ap (λ v. c.push_str-9.new.self.bytes ++ named_key v) c.wide.ensures) c.push_str-10.ensures.bytes
