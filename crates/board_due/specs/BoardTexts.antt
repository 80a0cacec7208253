-- The lines that `board` prints.
use Rattle.std.specs.Prelude.{ℕ, List, ◌∷◌, ◌++◌, codes}
use Rattle.std.specs.Fmt.{decimal}
use Rattle.definitions.specs.time.Spelling.{minute_text}
use Rattle.formats.specs.Bytes.{line, space}
use Rattle.board_entries.specs.declared.told.Told.{Told}
use Rattle.board_entries.specs.declared.told.Told.TheVariants.{At, Unknown}

-- what is told of a millisecond: its minute and second, or that they aren't known
abbrev pub told_text : Told → List ℕ
told_text Unknown = codes "unknown"
told_text (At minute second) = minute_text minute ++ space ∷ decimal second

-- an answer that an asker gave by so many entries, while the tracker went on
abbrev pub live_line : ℕ → Told → ℕ → List ℕ
live_line ms told count = line (codes "live " ++ decimal ms ++ space ∷ told_text told ++ codes " of " ++ decimal count)

-- the answer by all entries
abbrev pub at_line : ℕ → Told → List ℕ
at_line ms told = line (codes "at " ++ decimal ms ++ space ∷ told_text told)

-- why a text of queries is refused
abbrev pub too_large_line : List ℕ
too_large_line = line (codes "queries: too large")

abbrev pub bad_query_line : ℕ → List ℕ
bad_query_line number = line (codes "queries: line " ++ decimal number ++ codes ": shape")
