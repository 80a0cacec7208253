-- A text of queries: a millisecond on each line. A number has no sign and no needless zero, and each line ends with LF.
use Rattle.std.specs.Prelude.{ℕ, ◌≡◌, ◌⊎◌, ◌+◌, ◌<◌, ◌≤◌, List, ◌++◌, All, length}
use Rattle.std.specs.Fmt.{decimal}
use Rattle.std.specs.List.{flat_map}
use Rattle.formats.specs.Bytes.{line}
use Rattle.board_due.specs.declared.queries.TheConstants.{MOST_QUERIES, QUERIES_LIMIT, QUERY_LIMIT}

abbrev pub IsQuery : ℕ → Type 0
IsQuery ms = ms < QUERY_LIMIT

abbrev pub query_line : ℕ → List ℕ
query_line ms = line (decimal ms)

abbrev pub queries_text : List ℕ → List ℕ
queries_text queries = flat_map query_line queries

-- these queries may stand in one text
abbrev pub AreQueries : List ℕ → Type 0
AreQueries queries = All IsQuery queries × (length queries ≤ MOST_QUERIES)

-- the text is that of these queries
abbrev pub IsTextOf : List ℕ → List ℕ → Type 0
IsTextOf queries text = AreQueries queries × (text ≡ queries_text queries)

-- the line of a query comes next
abbrev pub BeginsWithQuery : List ℕ → Type 0
BeginsWithQuery rest = (ms : ℕ) × (more : List ℕ) × IsQuery ms × (rest ≡ query_line ms ++ more)

-- The first bad line of the text has this number: behind the lines before it something stands that is no line of a query, or one
-- line too many.
pub record IsRefused (text : List ℕ) (number : ℕ) : Type 0 where
  pub queries : List ℕ
  pub rest : List ℕ
  pub good : AreQueries queries
  pub read : text ≡ queries_text queries ++ rest
  pub more : 0 < length rest
  pub bad : (¬ (BeginsWithQuery rest)) ⊎ (length queries ≡ MOST_QUERIES)
  pub is_next : number ≡ length queries + 1

-- what is told of a text of queries: that it is too large, its first bad line, or its queries
pub data QueriesTold : Type 0 where
  TooLarge : QueriesTold
  BadLine : (number : ℕ) → QueriesTold
  Read : (queries : List ℕ) → QueriesTold

-- which of these is told: the size is judged first
abbrev pub IsToldOf : List ℕ → QueriesTold → Type 0
IsToldOf text TooLarge = QUERIES_LIMIT < length text
IsToldOf text (BadLine number) = (length text ≤ QUERIES_LIMIT) × IsRefused text number
IsToldOf text (Read queries) = (length text ≤ QUERIES_LIMIT) × IsTextOf queries text
