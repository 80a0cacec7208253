-- The words that a command begins with, and those behind them.
use Rattle.std.specs.Prelude.{ℕ, if◌then◌else◌, List, [], ◌∷◌, Option, Some, None, bytes_eq}
use Rattle.std.specs.Option.{option_and_then}

-- one word, or two
abbrev pub own_words : List ℕ → Option (List ℕ) → List (List ℕ)
own_words first None = first ∷ []
own_words first (Some second) = first ∷ second ∷ []

-- what stands behind a word, if the words begin with it
abbrev pub behind_word : List ℕ → List (List ℕ) → Option (List (List ℕ))
behind_word own [] = None
behind_word own (word ∷ words) = if bytes_eq own word then Some words else None

-- what stands behind some words, if the words begin with these
abbrev pub behind_words : List (List ℕ) → List (List ℕ) → Option (List (List ℕ))
behind_words [] words = Some words
behind_words (own ∷ more) words = option_and_then (behind_words more) (behind_word own words)
