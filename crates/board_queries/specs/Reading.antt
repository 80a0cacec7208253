-- What reading queries owes, and which line a fault names.
use Rattle.std.specs.Prelude.{◌≡◌, ◌⊎◌, ℕ, ◌+◌, List, Option, Some, None, IfSome}
use Rattle.std.specs.Fmt.{decimal}
use Rattle.board_due.specs.Queries.{BeginsWithQuery, IsQuery, IsRefused}
use Rattle.board_due.specs.declared.queries.TheConstants.{MOST_QUERIES}
use Rattle.board_queries.specs.declared.fault.QueryFault.{QueryFault}
use Rattle.board_queries.specs.declared.fault.QueryFault.TheVariants.{NoMemory, Shape}

-- the bytes of a query's line without its LF
abbrev pub SpellsQuery : List ℕ → ℕ → Type 0
SpellsQuery bytes ms = IsQuery ms × (bytes ≡ decimal ms)

-- the line that a fault names; want of memory names none
abbrev pub bad_line_of : QueryFault → Option ℕ
bad_line_of (Shape line) = Some line
bad_line_of NoMemory = None

-- the line that a fault names is the first bad one of the text
abbrev pub IsFaultOf : List ℕ → QueryFault → Type 0
IsFaultOf text fault = IfSome (bad_line_of fault) (IsRefused text)

-- behind so many queries it is the line that comes next, which is bad
abbrev pub IsFaultAt : ℕ → List ℕ → QueryFault → Type 0
IsFaultAt read rest fault =
    IfSome (bad_line_of fault) (λ line. (line ≡ read + 1) × ((¬ (BeginsWithQuery rest)) ⊎ (read ≡ MOST_QUERIES)))

-- a text that is refused for this line is refused so, or memory ran out
abbrev pub NamesLine : ℕ → QueryFault → Type 0
NamesLine number (Shape line) = line ≡ number
NamesLine number NoMemory = Unit {0}
