-- The last frame alone is compared.
use Rattle.std.proofs.Common.{◌-◌, List, sym, subst, arith}
use Rattle.std.proofs.lemmas.Bool.{le-leb, leb-true}
use Rattle.formats.specs.declared.frame.Frame.{Frame}
use Rattle.formats.specs.FrameTexts.{IsAfter}
use Rattle.irig_frames.proofs.ReadLaws.{after_last, last_before}
use Rattle.irig_frames.proofs.read.is_after.Goals as goal

pub returns-then-last-ms : goal.returns-then-last-ms
returns-then-last-ms c =
    let last = c.in-Some.last.now in
    let ms = c.args.ms in
    let front = c.in-Some.field-0-1.now in
    let parts = c.in-Some.ensures.cases.0 in (
      λ h. subst (λ (fs : List Frame). IsAfter fs ms) (sym parts) (after_last front last ms (omega (arith, leb-true 1000 (ms - last.at) h, c.if-last-ms.true))),
      λ h. le-leb 1000 (ms - last.at) (omega (arith, last_before front last ms (subst (λ (fs : List Frame). IsAfter fs ms) parts h))),
    )

pub returns-else-last-ms : goal.returns-else-last-ms
returns-else-last-ms c =
    let last = c.in-Some.last.now in
    let ms = c.args.ms in
    let front = c.in-Some.field-0-1.now in
    let parts = c.in-Some.ensures.cases.0 in (
      λ h. absurd (omega (arith, leb-true last.at ms h, c.if-last-ms.false)),
      λ h. absurd (omega (arith, c.if-last-ms.false, last_before front last ms (subst (λ (fs : List Frame). IsAfter fs ms) parts h))),
    )
