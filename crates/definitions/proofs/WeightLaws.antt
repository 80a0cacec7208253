-- The weights of a number's ones add up to it.
use Rattle.std.proofs.Common.{◌≡◌, ℕ, ◌<◌, List, ◌==◌, true, eqb-true}
use Rattle.definitions.specs.codes.Vocabulary.{weight_of_ones}
use Rattle.definitions.proofs.CheckLaws.{all_below, below}

pub adds_up : (weights : List (ℕ × ℕ)) (n : ℕ) → all_below (λ v. weight_of_ones (weights, v) == v) n ≡ true
    → (v : ℕ) → v < n → weight_of_ones (weights, v) ≡ v
adds_up weights n all v lt = eqb-true (weight_of_ones (weights, v)) v (below (λ v. weight_of_ones (weights, v) == v) n all v lt)
