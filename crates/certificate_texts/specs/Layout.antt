-- A certificate whose lines all stand in its first part.
use Rattle.std.specs.Prelude.{ℕ, zero, suc, ◌-◌, List, [], ◌∷◌}
use Rattle.certificates.specs.declared.certificate.Head.{Head}
use Rattle.certificates.specs.declared.certificate.Line.{Line}
use Rattle.certificates.specs.Certificates.{Certificate}

-- parts without a line
abbrev pub empty_parts : ℕ → List (List Line)
empty_parts zero = []
empty_parts (suc n) = [] ∷ empty_parts n

-- a certificate of so many parts, of which the first has these lines and the others none
abbrev pub in_first_part : Head → ℕ → List Line → Certificate
in_first_part head parts lines = record { head = head; parts = lines ∷ empty_parts (parts - 1) }
