-- What `judge` reads, owes and writes.
use Rattle.std.specs.Prelude.{ℕ, List, [], ◌∷◌}
use Rattle.due.specs.Outputs.{standard_output}
use Rattle.due.specs.Plans.{Plan}
use Rattle.judge_due.specs.JudgeDues.{IsJudgeDue, IsJudgeRead}
use Rattle.judge_due.specs.JudgeTexts.{JudgeOwed, judge_outputs, owed_status}

-- the plan of a run for its words
abbrev pub judge_plan : List (List ℕ) → Plan JudgeOwed
judge_plan words =
    record {
      owes = IsJudgeDue words;
      reads = IsJudgeRead words;
      status = owed_status;
      outputs = judge_outputs;
      files = standard_output ∷ [];
      no_other = λ owed file other. other;
    }
