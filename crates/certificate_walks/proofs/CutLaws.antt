-- What is appended to a file that stayed as it was told is appended to what was told.
use Rattle.std.proofs.Common.{ℕ, List, inl, inr, ⊎_elim}
use Rattle.bank_files.specs.Told.{AppendsFront, Tells, Told}
use Rattle.bank_files.proofs.Telling.{Tells-appended_after, Tells-then}

-- a front of it too
pub front_after : (a b c : Told) (text : List ℕ) → Tells a b → AppendsFront b text c → AppendsFront a text c
front_after a b c text same front =
    ⊎_elim
    (λ none. inl (Tells-then a b c same none))
    (λ p. inr (p.0, p.1, p.2, Tells-appended_after a b c p.0 same p.3))
    front
