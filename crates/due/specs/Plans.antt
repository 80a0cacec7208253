-- What a command reads, owes and writes, in one value, so that how a run ends is said once for all commands.
use Rattle.std.specs.Prelude.{ℕ, ◌≢◌, List, [], ◌∷◌}
use Rattle.due.specs.declared.frame_due.FrameDue.{FrameDue}
use Rattle.due.specs.declared.status.Status.{Status}
use Rattle.due.specs.CertificateRules.{certificate_name}
use Rattle.due.specs.Dues.{status_of}
use Rattle.due.specs.FrameDues.{frame_outputs, frame_status}
use Rattle.due.specs.FrameRules.{IsFrameDue, IsFrameRead}
use Rattle.due.specs.Inputs.{Contents, Input}
use Rattle.due.specs.Outputs.{EachOf, Output, standard_output}
use Rattle.due.specs.Owed.{IsOwed, Owed, files_of, no_other_file, owed_outputs}
use Rattle.due.specs.Rules.{IsRead}

-- D is what can be due.
pub record Plan (D : Type 0) : Type 1 where
  -- this is due for what is read
  pub owes : Contents → D → Type 0
  -- for what is read, this file is read as this input
  pub reads : Contents → Input → List ℕ → Type 0
  -- the status with which a run ends that wrote what is due
  pub status : D → Status
  -- what it writes, in this order
  pub outputs : D → List Output
  -- the files that it may write, whatever is due, and that it writes no other
  pub files : List (List ℕ)
  pub no_other : (due : D) (file : List ℕ) → EachOf (λ name. file ≢ name) files → EachOf (λ o. file ≢ o.file) (outputs due)

-- the plan of a run for its words
abbrev pub run_plan : List (List ℕ) → Plan Owed
run_plan words =
    record {
      owes = IsOwed words;
      reads = IsRead words;
      status = λ owed. status_of owed.due;
      outputs = owed_outputs (certificate_name words);
      files = files_of (certificate_name words);
      no_other = λ owed. no_other_file (certificate_name words) owed.certificate owed.due;
    }

-- the plan of a command of frames for its words
abbrev pub frame_plan : List (List ℕ) → Plan FrameDue
frame_plan words =
    record {
      owes = IsFrameDue words;
      reads = IsFrameRead words;
      status = frame_status;
      outputs = frame_outputs;
      files = standard_output ∷ [];
      no_other = λ due file other. other;
    }
