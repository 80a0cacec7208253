-- What stands before a byte.
use Rattle.std.specs.Prelude.{ℕ, ◌≢◌, List}
use Rattle.std.specs.List.{AllByRecursion}

-- none of the bytes is this one
abbrev pub HasNo : ℕ → List ℕ → Type 0
HasNo byte bytes = AllByRecursion (λ b. b ≢ byte) bytes
