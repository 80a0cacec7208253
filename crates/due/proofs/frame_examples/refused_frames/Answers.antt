-- A text is judged by its size, and then by its lines.
use Rattle.std.proofs.Common.{ℕ, List, [], codes, refl, sym, subst, arith}
use Rattle.formats.specs.declared.frame.FrameLineFault.TheVariants.{Shape}
use Rattle.due.specs.declared.frame_due.FrameDue.TheVariants.{BadLine, Read}
use Rattle.due.specs.FrameRules.{Bad_line, Good, IsToldOf, Of_text, Too_large}
use Rattle.due.proofs.FrameExampleLaws.{falls_first, no_frame, reading_asks}
use Rattle.due.proofs.frame_examples.refused_frames.Goals as goal

pub returns-clause-large : goal.returns-clause-large
returns-clause-large c = λ contents large. Of_text (codes "f.txt") reading_asks (Too_large large refl)

pub returns-clause-level : goal.returns-clause-level
returns-clause-level c = λ contents held.
    Of_text (codes "f.txt") reading_asks
    (subst (λ (bytes : List ℕ). IsToldOf bytes (BadLine 1 Shape)) (sym held) (Bad_line (omega arith) 1 Shape falls_first refl))

pub returns-clause-none : goal.returns-clause-none
returns-clause-none c = λ contents held.
    Of_text (codes "f.txt") reading_asks (subst (λ (bytes : List ℕ). IsToldOf bytes (Read [])) (sym held) (Good (omega arith) [] no_frame refl))
