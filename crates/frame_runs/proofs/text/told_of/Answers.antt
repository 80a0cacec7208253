-- Frames tell what is read of them; a bad line is refused.
use Rattle.std.proofs.Common.{IfSome, refl, sym, ◌∙◌, subst}
use Rattle.formats.specs.FrameTexts.{IsRefused}
use Rattle.due.specs.FrameRules.{Bad_line}
use Rattle.frame_runs.proofs.TellLaws.{frames_listed, frames_told}
use Rattle.frame_runs.proofs.text.told_of.Goals as goal

pub returns-in-Ok-clause-told : goal.returns-in-Ok-clause-told
returns-in-Ok-clause-told c = frames_told c.args.bytes.now c.in-Ok.frames.items c.new.result c.requires c.in-Ok.ensures.accepted c.new.ensures

pub returns-in-Ok-clause-can_be_written : goal.returns-in-Ok-clause-can_be_written
returns-in-Ok-clause-can_be_written c = frames_listed c.args.bytes.now c.in-Ok.frames.items c.new.result c.in-Ok.ensures.accepted c.new.ensures

pub returns-in-Some-clause-told : goal.returns-in-Some-clause-told
returns-in-Some-clause-told c =
    Bad_line c.requires c.in-Some.line c.in-Some.fault
    (subst (λ o. IfSome o (λ bad. IsRefused c.args.bytes.now bad.0 bad.1)) (sym c.bad_line.ensures ∙ c.in-Some.is) c.in-Err.ensures.refused) refl
