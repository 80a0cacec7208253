-- What `judge` owes, with its status and its text.
use Rattle.std.specs.Prelude.{ℕ, false, List, [], ◌∷◌}
use Rattle.due.specs.declared.due.Due.{Due}
use Rattle.due.specs.declared.status.Status.{Status}
use Rattle.due.specs.Dues.{status_of, text_of}
use Rattle.due.specs.Outputs.{Output, standard_output}
use Rattle.sweep_due.specs.JudgeRules.{JudgeDue, judge_status, judge_text}

-- what a run owes too: the line of a refusal, of the words, the configuration or a log; or what is told of a sweep's certificates
pub data JudgeOwed : Type 0 where
  Told : Due → JudgeOwed
  Judged : JudgeDue → JudgeOwed

-- the status with which a run ends that owed this
abbrev pub owed_status : JudgeOwed → Status
owed_status (Told due) = status_of due
owed_status (Judged due) = judge_status due

-- the bytes that it adds to standard output
abbrev pub owed_text : JudgeOwed → List ℕ
owed_text (Told due) = text_of due
owed_text (Judged due) = judge_text due

-- all that it writes
abbrev pub judge_outputs : JudgeOwed → List Output
judge_outputs owed = record { file = standard_output; anew = false; text = owed_text owed } ∷ []
