-- The files of a sweep's certificates.
use Rattle.std.specs.Prelude.{ℕ, List, ◌++◌, codes}
use Rattle.std.specs.Fmt.{decimal}

-- that of an offset: the name that the words give, a dot, and the offset's number
abbrev pub file_at : List ℕ → ℕ → List ℕ
file_at name i = name ++ codes "." ++ decimal i
