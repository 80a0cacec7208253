-- What `follow` reads, owes and writes.
use Rattle.std.specs.Prelude.{ℕ, List, [], ◌∷◌}
use Rattle.due.specs.Outputs.{standard_output}
use Rattle.due.specs.Plans.{Plan}
use Rattle.follow_due.specs.declared.follow_due.FollowDue.{FollowDue}
use Rattle.follow_due.specs.FollowDues.{follow_outputs, follow_status}
use Rattle.follow_due.specs.FollowRules.{IsFollowDue, IsFollowRead}

-- the plan of a run for its words
abbrev pub follow_plan : List (List ℕ) → Plan FollowDue
follow_plan words =
    record {
      owes = IsFollowDue words;
      reads = IsFollowRead words;
      status = follow_status;
      outputs = follow_outputs;
      files = standard_output ∷ [];
      no_other = λ due file other. other;
    }
