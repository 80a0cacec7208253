-- Lists that rise by a number.
use Rattle.std.proofs.Common.{ℕ, List, [], ◌∷◌, map, ap, arith}
use Rattle.std.proofs.lemmas.List.{get_or-map}
use Rattle.std.specs.List.Sorted.{IsNonDecreasingBy}
use Rattle.bank.proofs.LogListLaws.{length_map}

-- what is made of each rises as they do
pub rises_map : {X Y : Type 0} (f : X → Y) (n : Y → ℕ) (xs : List X) → IsNonDecreasingBy (λ x. n (f x)) xs → IsNonDecreasingBy n (map f xs)
rises_map f n [] up i j d first last = absurd (omega arith)
rises_map f n (x ∷ xs) up i j d first last =
    let long = length_map f (x ∷ xs) in
    let at = ap n (get_or-map f (x ∷ xs) i x d (omega arith)) in
    let also = ap n (get_or-map f (x ∷ xs) j x d (omega arith)) in
    let rises = up i j x first (omega arith) in
    omega arith
