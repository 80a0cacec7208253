-- Keys, and the two least of a list of them.
use Rattle.std.specs.Prelude.{ℕ, List, [], ◌∷◌, min, max}
use Rattle.race_words.specs.declared.ends.Ends.{Ends}

-- what stands for no key: the greatest u64
abbrev pub no_key : ℕ
no_key = 18446744073709551615

-- the two least once a key is added
abbrev pub with_key : ℕ → Ends → Ends
with_key key ends = record { least = min key ends.least; second = min (max key ends.least) ends.second }

-- the least and the second-least of a list, repeats counted, and no key where there is none
abbrev pub two_least : List ℕ → Ends
two_least [] = record { least = no_key; second = no_key }
two_least (key ∷ keys) = with_key key (two_least keys)
