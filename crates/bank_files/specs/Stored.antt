-- Files by name: what each holds, and how one of them changes. None stands for a file that isn't there.
use Rattle.std.specs.Prelude.{◌≡◌, ◌≢◌, ℕ, ◌-◌, List, ◌++◌, length, take, drop, min, Option, Some, Vec, String}
use Rattle.std.specs.BTreeMap.{BTreeMap, get_by_text}
use Rattle.std.specs.Option.{option_map}

module _ {Y Z : Type 0} where
  -- what the file of this name holds
  abbrev pub bytes_of : BTreeMap (String Y) (Vec ℕ Z) → List ℕ → Option (List ℕ)
  bytes_of files name = option_map (λ bytes. bytes.items) (get_by_text files name)

-- the file of this name holds these bytes now, and every other is as before
pub record Sets (old new : List ℕ → Option (List ℕ)) (name bytes : List ℕ) : Type 0 where
  pub file : new name ≡ Some bytes
  pub others : (other : List ℕ) → other ≢ name → new other ≡ old other

-- every file is as before
abbrev pub SameFiles : (List ℕ → Option (List ℕ)) → (List ℕ → Option (List ℕ)) → Type 0
SameFiles old new = (name : List ℕ) → new name ≡ old name

-- as many bytes of the file from place `at` as there are or fit went into the front of the buffer
pub record Copies (file : List ℕ) (at n : ℕ) (old new : List ℕ) : Type 0 where
  pub count : n ≡ min (length old) (length file - at)
  pub buffer : new ≡ take n (drop at file) ++ drop n old
