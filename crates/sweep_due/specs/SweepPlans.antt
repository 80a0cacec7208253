-- What `sweep` reads, owes and writes.
use Rattle.std.specs.Prelude.{ℕ, List}
use Rattle.due.specs.Dues.{status_of}
use Rattle.due.specs.Plans.{Plan}
use Rattle.sweep_due.specs.SweepCertificates.{certificates_name}
use Rattle.sweep_due.specs.SweepOwed.{IsSweepOwed, SweepOwed, files_of, no_other_file, owed_outputs}
use Rattle.sweep_due.specs.SweepRules.{IsSweepRead}

-- the plan of a run for its words
abbrev pub sweep_plan : List (List ℕ) → Plan SweepOwed
sweep_plan words =
    record {
      owes = IsSweepOwed words;
      reads = IsSweepRead words;
      status = λ owed. status_of owed.due;
      outputs = owed_outputs (certificates_name words);
      files = files_of (certificates_name words);
      no_other = λ owed. no_other_file (certificates_name words) owed.certificates owed.due;
    }
