-- What `check` reads, owes and writes.
use Rattle.std.specs.Prelude.{ℕ, List, [], ◌∷◌}
use Rattle.due.specs.Outputs.{standard_output}
use Rattle.due.specs.Plans.{Plan}
use Rattle.check_due.specs.declared.check_owed.CheckOwed.{CheckOwed}
use Rattle.check_due.specs.CheckRules.{IsCheckDue, IsCheckRead}
use Rattle.check_due.specs.CheckTexts.{check_outputs, owed_status}

-- the plan of a run for its words
abbrev pub check_plan : List (List ℕ) → Plan CheckOwed
check_plan words =
    record {
      owes = IsCheckDue words;
      reads = IsCheckRead words;
      status = owed_status;
      outputs = check_outputs;
      files = standard_output ∷ [];
      no_other = λ owed file other. other;
    }
