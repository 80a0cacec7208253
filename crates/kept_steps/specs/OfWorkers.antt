-- What one worker's steps keep to, whatever the others do.
use Rattle.std.specs.Prelude.{ℕ, ◌≤◌, min, List, [], ◌∷◌}
use Rattle.race_words.specs.Keys.{no_key, two_least}
use Rattle.workers.specs.Steps.{Step, offered_at}

-- these keys, the latest first, once more were offered
abbrev pub with_keys : List ℕ → List ℕ → List ℕ
with_keys keys [] = keys
with_keys keys (key ∷ more) = with_keys (key ∷ keys) more

-- what was read, a key or none, isn't above the second-least of these keys
abbrev pub IsWithin : List ℕ → ℕ → Type 0
IsWithin keys seen = min seen no_key ≤ (two_least keys).second

-- Steps of one worker: what is read isn't above what was known before them, never rises, and isn't above the second-least of the
-- keys that were known and of those that were offered before it.
abbrev pub KeepTo : ℕ → ℕ → List ℕ → List Step → Type 0
KeepTo ceiling known keys [] = Unit {0}
KeepTo ceiling known keys (s ∷ ss) =
    (s.seen ≤ known) × IsWithin keys s.seen × KeepTo ceiling s.seen (with_keys keys (offered_at ceiling s)) ss

-- all steps of a worker, who knew no key before
abbrev pub IsOfWorker : ℕ → List Step → Type 0
IsOfWorker ceiling steps = KeepTo ceiling no_key [] steps
