-- What the line of an edge says.
use Rattle.std.specs.Prelude.{◌≡◌, ℕ, ◌<◌, List, [], ◌∷◌, ◌++◌}
use Rattle.std.specs.Fmt.{decimal}
use Rattle.formats.specs.Bytes.{space}
use Rattle.formats.specs.declared.frame.TheConstants.{EDGE_LIMIT}

-- the bytes of a time in milliseconds, of at most 13 digits
abbrev pub SpellsTime : List ℕ → ℕ → Type 0
SpellsTime bytes ms = (ms < EDGE_LIMIT) × (bytes ≡ decimal ms)

-- the bytes of an edge's line without its LF
abbrev pub SpellsEdge : ℕ → List ℕ → ℕ → Type 0
SpellsEdge letter bytes ms = (ms < EDGE_LIMIT) × (bytes ≡ decimal ms ++ space ∷ letter ∷ [])
