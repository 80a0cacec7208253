-- Command lines as one types them.
use Rattle.std.specs.Prelude.{ℕ, ◌==◌, if◌then◌else◌, List, [], ◌∷◌, Option, None}
use Rattle.formats.specs.declared.words.Asked.{Asked}
use Rattle.formats.specs.Bytes.{space}
use Rattle.formats.specs.LogLines.{onto_first}
use Rattle.formats.specs.Orders.{Checked, Order, order_of}
use Rattle.formats.specs.Words.{Form, reach_commands, run_commands}

-- the words of a line, parted by single spaces
abbrev pub words_in : List ℕ → List (List ℕ)
words_in [] = [] ∷ []
words_in (b ∷ bs) = if b == space then [] ∷ words_in bs else onto_first b (words_in bs)

-- what a command takes: its own words, places, and options
abbrev pub taking : List ℕ → ℕ → List ℕ → Form
taking own places options = record { words = words_in own; places = places; options = words_in options }

-- what a line asks of a run, and what of the commands beyond it
abbrev pub run_of : List ℕ → Checked Order
run_of line = order_of run_commands (words_in line)

abbrev pub reach_of : List ℕ → Checked Order
reach_of line = order_of reach_commands (words_in line)

-- a window from this start on, with so many seconds, that may begin in these minutes
abbrev pub asked : Option ℕ → ℕ → ℕ → ℕ → Asked
asked start seconds from to = record { start = start; seconds = seconds; from = from; to = to }

-- what is asked without an option: three minutes, which may begin at any time of the years 2000 to 2099
abbrev pub asked_usually : Asked
asked_usually = asked None 180 0 52_596_000
