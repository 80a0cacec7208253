-- The status and the text of what `check` owes.
use Rattle.std.specs.Prelude.{ℕ, false, List, [], ◌∷◌}
use Rattle.due.specs.declared.status.Status.{Status}
use Rattle.due.specs.CheckDues.{check_status, check_text}
use Rattle.due.specs.Dues.{status_of, text_of}
use Rattle.due.specs.Outputs.{Output, standard_output}
use Rattle.check_due.specs.declared.check_owed.CheckOwed.{CheckOwed}
use Rattle.check_due.specs.declared.check_owed.CheckOwed.TheVariants.{Judged, Told}

-- the status with which a run ends that owed this
abbrev pub owed_status : CheckOwed → Status
owed_status (Told due) = status_of due
owed_status (Judged due) = check_status due

-- the bytes that it adds to standard output
abbrev pub owed_text : CheckOwed → List ℕ
owed_text (Told due) = text_of due
owed_text (Judged due) = check_text due

-- all that it writes
abbrev pub check_outputs : CheckOwed → List Output
check_outputs owed = record { file = standard_output; anew = false; text = owed_text owed } ∷ []
