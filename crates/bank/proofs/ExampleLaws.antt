-- What is told of a file can't be something else.
use Rattle.std.proofs.Common.{◌≡◌, ◌≢◌, ℕ, List, [], ◌∷◌, false, sym, ◌∙◌, ⊎_elim}
use Rattle.std.proofs.lemmas.Bool.{false≢true}
use Rattle.std.proofs.lemmas.Slice.Eq.{bytes_eq-Decides}
use Rattle.std.specs.Str.{bytes_eq}
use Rattle.bank_files.specs.Told.{Told, Untold, Missing, Holds, Tells}

-- two names that are told apart by comparing them
pub names_differ : (a b : List ℕ) → bytes_eq a b ≡ false → a ≢ b
names_differ a b apart same = false≢true (sym apart ∙ (bytes_eq-Decides a b).1 same)

-- a file with some bytes isn't empty
pub not_emptied : (first : ℕ) (rest : List ℕ) → Tells (Holds (first ∷ rest)) (Holds []) → ⊥
not_emptied first rest = ⊎_elim (λ same. absurd cc) (λ gone. absurd cc)

-- nor does an empty one have some
pub not_filled : (first : ℕ) (rest : List ℕ) → Tells (Holds []) (Holds (first ∷ rest)) → ⊥
not_filled first rest = ⊎_elim (λ same. absurd cc) (λ gone. absurd cc)

-- a missing file isn't there
pub not_made : (bytes : List ℕ) → Tells Missing (Holds bytes) → ⊥
not_made bytes = ⊎_elim (λ same. absurd cc) (λ gone. absurd cc)

-- and one that is there isn't missing
pub not_removed : (bytes : List ℕ) → Tells (Holds bytes) Missing → ⊥
not_removed bytes = ⊎_elim (λ same. absurd cc) (λ gone. absurd cc)
