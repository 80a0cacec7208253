-- What `board` tells: the entries of the decided windows, and the answers by them.
use Rattle.std.specs.Prelude.{ℕ, ◌≡◌, ◌%◌, ◌<◌, ◌≤◌, List, [], ◌∷◌, ◌++◌, length, slice_index, take}
use Rattle.std.specs.List.{flat_map}
use Rattle.signal_base.specs.declared.window.Window.{Window}
use Rattle.definitions.specs.declared.answer.Answer.{Answer}
use Rattle.definitions.specs.declared.answer.Answer.TheVariants as answers
use Rattle.follow_due.specs.declared.window_report.WindowReport.{WindowReport}
use Rattle.board_entries.specs.Board.{PlainEntry, told_of}
use Rattle.board_due.specs.BoardTexts.{at_line, live_line}

-- the entry of a window, where it is decided
abbrev pub entry_of : Window → Answer → List PlainEntry
entry_of window (answers.Decided cost q next) =
    record { start = window.start; phase = window.phase; seconds = window.seconds; sequence = q } ∷ []
entry_of window answer = []

-- the entries of the decided windows, in their order
abbrev pub entries_of : List WindowReport → List PlainEntry
entries_of reports = flat_map (λ r. entry_of r.window r.answer) reports

-- How many entries each query was answered by, in the order of the queries, which so many askers took in turn: no more than there
-- are, and for one asker never fewer than before.
pub record AreCounts (readers : ℕ) (entries : List PlainEntry) (queries counts : List ℕ) : Type 0 where
  pub each : length counts ≡ length queries
  pub most : (n : ℕ) → n < length counts → slice_index counts n ≤ length entries
  pub rise : (n m : ℕ) → n ≤ m → m < length counts → n % readers ≡ m % readers → slice_index counts n ≤ slice_index counts m

-- the answers while entries were published: each is what the first so many entries tell
abbrev pub live_lines : List PlainEntry → List ℕ → List ℕ → List ℕ
live_lines entries [] counts = []
live_lines entries (ms ∷ queries) [] = []
live_lines entries (ms ∷ queries) (count ∷ counts) = live_line ms (told_of (take count entries) ms) count ++ live_lines entries queries counts

-- the answers by all entries
abbrev pub at_lines : List PlainEntry → List ℕ → List ℕ
at_lines entries queries = flat_map (λ ms. at_line ms (told_of entries ms)) queries

-- all that is printed, where queries were answered by so many entries
abbrev pub board_text : List PlainEntry → List ℕ → List ℕ → List ℕ
board_text entries queries counts = live_lines entries queries counts ++ at_lines entries queries
