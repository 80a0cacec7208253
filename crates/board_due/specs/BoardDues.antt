-- The status, the text and the output of what `board` owes.
use Rattle.std.specs.Prelude.{ℕ, ◌≡◌, false, List, [], ◌∷◌}
use Rattle.due.specs.declared.status.Status.{Status}
use Rattle.due.specs.declared.status.Status.TheVariants.{BadQueries, Done}
use Rattle.due.specs.Dues.{status_of, text_of}
use Rattle.due.specs.Outputs.{Output, standard_output}
use Rattle.board_due.specs.declared.board_due.BoardDue.{BoardDue}
use Rattle.board_due.specs.declared.board_due.BoardDue.TheVariants.{Answers, BadLine, Told, TooLarge}
use Rattle.board_due.specs.BoardAnswers.{board_text}
use Rattle.board_due.specs.BoardTexts.{bad_query_line, too_large_line}

-- The status with which a run ends that told this. Where queries are answered it is 0, whether or not windows are decided.
abbrev pub board_status : BoardDue → Status
board_status (Told due) = status_of due
board_status TooLarge = BadQueries
board_status (BadLine line) = BadQueries
board_status (Answers entries queries counts) = Done

-- the bytes that a run adds to standard output
abbrev pub board_due_text : BoardDue → List ℕ
board_due_text (Told due) = text_of due
board_due_text TooLarge = too_large_line
board_due_text (BadLine line) = bad_query_line line
board_due_text (Answers entries queries counts) = board_text entries queries counts

-- all that a run writes that owes this
abbrev pub board_outputs : BoardDue → List Output
board_outputs due = record { file = standard_output; anew = false; text = board_due_text due } ∷ []

-- all of what is due but by how many entries queries were answered while entries were published
abbrev pub but_for_counts : BoardDue → BoardDue
but_for_counts (Told due) = Told due
but_for_counts TooLarge = TooLarge
but_for_counts (BadLine line) = BadLine line
but_for_counts (Answers entries queries counts) = Answers entries queries []

-- Queries were answered by so many entries while these were published. Where no query is answered, it says nothing.
abbrev pub IsBy : List ℕ → BoardDue → Type 0
IsBy live (Told due) = Unit {0}
IsBy live TooLarge = Unit {0}
IsBy live (BadLine line) = Unit {0}
IsBy live (Answers entries queries counts) = counts ≡ live
