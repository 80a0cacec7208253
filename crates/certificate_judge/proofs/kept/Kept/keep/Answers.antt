-- By what the line tells.
use Rattle.std.proofs.Common.{ap, refl}
use Rattle.certificate_texts.specs.Places.{entry_of, head_line_of}
use Rattle.certificate_judge.proofs.KeptLaws.{end_kept, head_kept, part_kept, step_kept}
use Rattle.certificate_judge.proofs.kept.Kept.keep.Goals as goal

pub returns-in-Head-clause-kept : goal.returns-in-Head-clause-kept
returns-in-Head-clause-kept c = λ read is.
    head_kept c.args.self.now _ read is (head_line_of c.in-Head.part) c.in-Head.value (entry_of c.args.told.now) (ap entry_of c.in-Head.is) c.tell.ensures refl refl

pub returns-in_ok-begin_part-in-Part-clause-kept : goal.returns-in_ok-begin_part-in-Part-clause-kept
returns-in_ok-begin_part-in-Part-clause-kept c = λ read is.
    part_kept c.args.self.now c.begin_part.new.self read is c.in-Part.number (entry_of c.args.told.now) (ap entry_of c.in-Part.is) c.begin_part.ensures.heading
    c.begin_part.ensures.lines c.in_ok-begin_part-in-Part.ensures.starts

pub returns-in_ok-push-in-Step-clause-kept : goal.returns-in_ok-push-in-Step-clause-kept
returns-in_ok-push-in-Step-clause-kept c = λ read is.
    step_kept c.args.self.now _ read is c.in-Step.line (entry_of c.args.told.now) (ap entry_of c.in-Step.is) refl c.in_ok-push-in-Step.ensures.items refl

pub returns-in-End-clause-kept : goal.returns-in-End-clause-kept
returns-in-End-clause-kept c = λ read is. end_kept c.args.self.now read (entry_of c.args.told.now) is (ap entry_of c.in-End.is)
