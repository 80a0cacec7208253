-- What `board` reads, owes and writes.
use Rattle.std.specs.Prelude.{ℕ, List, [], ◌∷◌}
use Rattle.due.specs.Outputs.{standard_output}
use Rattle.due.specs.Plans.{Plan}
use Rattle.board_due.specs.declared.board_due.BoardDue.{BoardDue}
use Rattle.board_due.specs.BoardDues.{IsBy, board_outputs, board_status}
use Rattle.board_due.specs.BoardRules.{IsBoardDue, IsBoardRead}

-- the plan of a run for its words, by whatever numbers of entries its queries are answered meanwhile
abbrev pub board_plan : List (List ℕ) → Plan BoardDue
board_plan words =
    record {
      owes = IsBoardDue words;
      reads = IsBoardRead words;
      status = board_status;
      outputs = board_outputs;
      files = standard_output ∷ [];
      no_other = λ due file other. other;
    }

-- the plan of a run whose queries were answered by so many entries while these were published: one thing is due of it
abbrev pub board_plan_by : List ℕ → List (List ℕ) → Plan BoardDue
board_plan_by live words =
    record {
      owes = λ contents due. IsBoardDue words contents due × IsBy live due;
      reads = IsBoardRead words;
      status = board_status;
      outputs = board_outputs;
      files = standard_output ∷ [];
      no_other = λ due file other. other;
    }
