-- Certificates that were written for a sweep, as their judge finds them.
use Rattle.std.specs.Prelude.{ℕ, ◌≡◌, ◌≤◌, List, [], ◌∷◌, length}
use Rattle.certificates.specs.declared.limits.TheConstants.{MOST_STEPS}
use Rattle.certificates.specs.Certificates.{Certificate, lines_of}
use Rattle.certificates.specs.Texts.{certificate_text}
use Rattle.sweep_due.specs.JudgeRules.{Files}

-- none has more steps than are read
abbrev pub AreShort : List Certificate → Type 0
AreShort [] = Unit {0}
AreShort (c ∷ cs) = (length (lines_of c) ≤ MOST_STEPS) × AreShort cs

-- the file at each of these offsets has the text of its certificate
abbrev pub AreWritten : Files → List ℕ → List Certificate → Type 0
AreWritten files [] cs = Unit {0}
AreWritten files (i ∷ is) [] = ⊥
AreWritten files (i ∷ is) (c ∷ cs) = (files i ≡ certificate_text c) × AreWritten files is cs
