-- Keys of which none stands twice, and a key or none.
use Rattle.std.specs.Prelude.{ℕ, ◌≤◌, ◌==◌, if◌then◌else◌, List, Option, Some, None}
use Rattle.race_words.specs.Keys.{no_key}
use Rattle.race_words.specs.Sound.{times}

-- no key stands twice in the list
abbrev pub AreApart : List ℕ → Type 0
AreApart keys = (key : ℕ) → times key keys ≤ 1

-- a key of a race, where the greatest u64 stands for none
abbrev pub key_if_any : ℕ → Option ℕ
key_if_any key = if key == no_key then None else Some key
