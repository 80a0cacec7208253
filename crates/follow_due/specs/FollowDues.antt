-- The status, the text and the output of what `follow` owes.
use Rattle.std.specs.Prelude.{ℕ, Bool, false, true, if◌then◌else◌, List, [], ◌∷◌, ◌++◌, codes}
use Rattle.std.specs.Fmt.{decimal}
use Rattle.std.specs.List.{flat_map, list_all}
use Rattle.signal_base.specs.declared.window.Window.{Window}
use Rattle.definitions.specs.declared.answer.Answer.{Answer}
use Rattle.definitions.specs.declared.answer.Answer.TheVariants as answers
use Rattle.formats.specs.Bytes.{line}
use Rattle.formats.specs.Reports.{report}
use Rattle.due.specs.declared.status.Status.{Status}
use Rattle.due.specs.declared.status.Status.TheVariants.{Done, Undecided}
use Rattle.due.specs.Dues.{status_of, text_of}
use Rattle.due.specs.Outputs.{Output, standard_output}
use Rattle.follow_due.specs.declared.follow_due.FollowDue.{FollowDue}
use Rattle.follow_due.specs.declared.follow_due.FollowDue.TheVariants.{Told, Windows}
use Rattle.follow_due.specs.declared.window_report.WindowReport.{WindowReport}

abbrev pub is_decided : Answer → Bool
is_decided (answers.Decided cost q next) = true
is_decided other = false

abbrev pub all_decided : List WindowReport → Bool
all_decided reports = list_all (λ r. is_decided r.answer) reports

-- The status with which a run ends that told this. Where some window isn't decided it is the one of a tie, also where nothing is
-- admitted.
abbrev pub follow_status : FollowDue → Status
follow_status (Told due) = status_of due
follow_status (Windows reports) = if all_decided reports then Done else Undecided

-- the line of a window: the millisecond of the receivers' clock at which it starts
abbrev pub window_line : Window → List ℕ
window_line window = line (codes "window " ++ decimal window.start)

-- what is told of a window
abbrev pub window_text : WindowReport → List ℕ
window_text told = window_line told.window ++ report told.window told.duts told.answer

abbrev pub windows_text : List WindowReport → List ℕ
windows_text reports = flat_map window_text reports

-- the bytes that a run adds to standard output
abbrev pub follow_text : FollowDue → List ℕ
follow_text (Told due) = text_of due
follow_text (Windows reports) = windows_text reports

-- all that a run writes that owes this
abbrev pub follow_outputs : FollowDue → List Output
follow_outputs due = record { file = standard_output; anew = false; text = follow_text due } ∷ []
