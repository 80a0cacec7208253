-- What is told of one file, and what a call makes of it.
use Rattle.std.specs.Prelude.{◌≡◌, ◌⊎◌, ℕ, ◌<◌, ◌≤◌, List, [], ◌++◌, length, take, drop, codes}

-- What a kind of files tells of a name: nothing, that there is no such file, or the bytes that it holds.
pub data Told : Type 0 where
  Untold : Told
  Missing : Told
  Holds : (bytes : List ℕ) → Told

-- the name of standard output
abbrev pub output_name : List ℕ
output_name = codes "-"

-- an empty file, whatever was there
abbrev pub emptied : Told → Told
emptied Untold = Untold
emptied Missing = Holds []
emptied (Holds bytes) = Holds []

-- the file with these bytes at its end, made where it was missing
abbrev pub appended : Told → List ℕ → Told
appended Untold piece = Untold
appended Missing piece = Holds piece
appended (Holds bytes) piece = Holds (bytes ++ piece)

-- what is told now is this, or nothing any more
abbrev pub Tells : Told → Told → Type 0
Tells expected now = (now ≡ expected) ⊎ (now ≡ Untold)

-- as far as it is told, there is such a file, and P holds of its bytes
abbrev pub Finds : Told → (List ℕ → Type 0) → Type 0
Finds Untold P = Unit {0}
Finds Missing P = ⊥
Finds (Holds bytes) P = P bytes

-- nothing was appended, or a front of the piece
abbrev pub AppendsFront : Told → List ℕ → Told → Type 0
AppendsFront old piece new = Tells old new ⊎ ((front : List ℕ) × (rest : List ℕ) × (front ++ rest ≡ piece) × Tells (appended old front) new)

-- a read gave n bytes of the file from place `at`, at the front of the buffer; none only at the file's end or for an empty buffer
pub record Reads (file : List ℕ) (at n : ℕ) (buffer : List ℕ) : Type 0 where
  pub front : take n buffer ≡ take n (drop at file)
  pub end : n ≡ 0 → 0 < length buffer → length file ≤ at
