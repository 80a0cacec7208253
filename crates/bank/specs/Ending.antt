-- How a run over files ends, whatever its command: what it reads, owes and writes is its plan. `old` and `new` are the files as
-- the run found them and as it left them.
use Rattle.std.specs.Prelude.{ℕ, ◌≡◌, ◌≢◌, ◌⊎◌, if◌then◌else◌, List, [], ◌∷◌, Result, Ok, Err, IfOk, IsErrOf, OnOk, OnErr}
use Rattle.bank_files.specs.Told.{Told, Untold, Missing, Holds, Finds, Tells, AppendsFront, appended, emptied}
use Rattle.bank_files.specs.Seen.{KeepsCounts, OnlyReads, ReadFails, SameCounts, Seen, WriteFails}
use Rattle.due.specs.declared.status.Status.{Status}
use Rattle.due.specs.declared.status.Status.TheVariants as statuses
use Rattle.due.specs.Inputs.{Contents, Input}
use Rattle.due.specs.Outputs.{EachOf, Output, SomeOf}
use Rattle.due.specs.Plans.{Plan}
use Rattle.due.specs.Status.{code_of}
use Rattle.bank.specs.declared.stop.Stop.{Stop}
use Rattle.bank.specs.declared.stop.Stop.TheVariants.{Failed, NoMemory}

-- the bytes are those of a file, where it is told what it holds
abbrev pub MayHold : Told → List ℕ → Type 0
MayHold Untold bytes = Unit {0}
MayHold Missing bytes = Unit {0}
MayHold (Holds held) bytes = bytes ≡ held

-- An output's file as its text begins: emptied, where it is written anew.
abbrev pub begun : Output → Told → Told
begun o told = if o.anew then emptied told else told

-- the whole text of an output is at the end of its file
abbrev pub IsWhole : Seen → Seen → Output → Type 0
IsWhole old new o = Tells (appended (begun o (old.told o.file)) o.text) (new.told o.file)

-- the file of an output is as before
abbrev pub IsUntouched : Seen → Seen → Output → Type 0
IsUntouched old new o = Tells (old.told o.file) (new.told o.file)

-- it is as before, or it was begun, and a front of the text is at its end
abbrev pub HasFront : Seen → Seen → Output → Type 0
HasFront old new o = IsUntouched old new o ⊎ AppendsFront (begun o (old.told o.file)) o.text (new.told o.file)

-- Outputs were written in their order until one failed: all before that one are whole, and all behind it are as before.
abbrev pub CameTo : Seen → Seen → List Output → Type 0
CameTo old new [] = ⊥
CameTo old new (o ∷ os) = (HasFront old new o × EachOf (IsUntouched old new) os) ⊎ (IsWhole old new o × CameTo old new os)

-- every file but those of the outputs is as before
abbrev pub LeavesOthers : Seen → Seen → List Output → Type 0
LeavesOthers old new outputs = (file : List ℕ) → EachOf (λ o. file ≢ o.file) outputs → Tells (old.told file) (new.told file)

-- Outputs are written one after the other. Where that succeeded, each stands whole, and no count rose. Where it failed, they came
-- so far, and a count of write faults tells of it.
pub record WritesAll {E : Type 0} (outputs : List Output) (old new : Seen) (result : Result (Unit {0}) E) : Type 0 where
  pub whole : OnOk result (EachOf (IsWhole old new) outputs)
  pub front : OnErr result (CameTo old new outputs)
  pub cause : OnErr result (SomeOf (λ o. WriteFails o.file old new) outputs)
  pub same_counts : OnOk result (SameCounts old new)
  pub others : LeavesOthers old new outputs
  pub counts : KeepsCounts old new

-- every file is as before
abbrev pub WritesNothing : Seen → Seen → Type 0
WritesNothing old new = (file : List ℕ) → Tells (old.told file) (new.told file)

-- every file but these is as before, and no count of faults fell
pub record OnlyWritesAmong (files : List (List ℕ)) (old new : Seen) : Type 0 where
  pub others : (other : List ℕ) → EachOf (λ file. other ≢ file) files → Tells (old.told other) (new.told other)
  pub counts : KeepsCounts old new

module _ {D : Type 0} (plan : Plan D) where
  -- what is read agrees with what is told of the files that the run reads: each that is told is there, and holds it
  abbrev pub Agrees : Seen → Contents → Type 0
  Agrees old contents = (input : Input) (file : List ℕ) → plan.reads contents input file → Finds (old.told file) (λ bytes. contents input ≡ bytes)

  -- the files that the run reads are told, and hold this
  abbrev pub AreTold : Seen → Contents → Type 0
  AreTold old contents = (input : Input) (file : List ℕ) → plan.reads contents input file → old.told file ≡ Holds (contents input)

  -- what is read may be so: each file that is told to hold something holds it
  abbrev pub MayBeRead : Seen → Contents → Type 0
  MayBeRead old contents = (input : Input) (file : List ℕ) → plan.reads contents input file → MayHold (old.told file) (contents input)

  -- due for some contents that agree with what is told of the files
  abbrev pub IsFound : Seen → D → Type 0
  IsFound old due = (contents : Contents) × Agrees old contents × plan.owes contents due

  -- all that is written where this is due stands whole, nothing else has changed, and this is the number of its status
  abbrev pub Delivers : Seen → Seen → D → ℕ → Type 0
  Delivers old new due code =
      (code ≡ code_of (plan.status due)) × EachOf (IsWhole old new) (plan.outputs due) × LeavesOthers old new (plan.outputs due)

  -- so it is with what is due for some contents that agree with what is told of the files
  abbrev pub DeliversDue : Seen → Seen → ℕ → Type 0
  DeliversDue old new code = (due : D) × IsFound old due × Delivers old new due code

  -- writing what is due for such contents was begun, and came so far
  abbrev pub WritesFront : Seen → Seen → Type 0
  WritesFront old new =
      (due : D) × IsFound old due × CameTo old new (plan.outputs due) × LeavesOthers old new (plan.outputs due)

  -- reading a file that the run reads has failed
  abbrev pub SomeReadFails : Seen → Seen → Type 0
  SomeReadFails old new =
      (contents : Contents) × (input : Input) × (file : List ℕ) × MayBeRead old contents × plan.reads contents input file × ReadFails file old new

  -- writing a file that is written where such is due has failed
  abbrev pub SomeWriteFails : Seen → Seen → Type 0
  SomeWriteFails old new = (due : D) × IsFound old due × SomeOf (λ o. WriteFails o.file old new) (plan.outputs due)

  -- a run delivered what is due, a file of it failed, or memory ran out
  abbrev pub Ends : Seen → Seen → Result Status Stop → Type 0
  Ends old new (Ok status) = DeliversDue old new (code_of status) × SameCounts old new
  Ends old new (Err Failed) = (SomeWriteFails old new ⊎ SomeReadFails old new) × (WritesNothing old new ⊎ WritesFront old new)
  Ends old new (Err NoMemory) = WritesNothing old new × SameCounts old new

-- A plan of what is seen is one of what is kept.
abbrev pub over : {D E : Type 0} → (D → E) → Plan E → Plan D
over seen plan =
    record {
      owes = λ contents due. plan.owes contents (seen due);
      reads = plan.reads;
      status = λ due. plan.status (seen due);
      outputs = λ due. plan.outputs (seen due);
      files = plan.files;
      no_other = λ due file other. plan.no_other (seen due) file other;
    }

-- what finding what is due came to: it only read
pub record FindsDue {D : Type 0} (plan : Plan D) (old new : Seen) (found : Result D Stop) : Type 0 where
  pub due : IfOk found (IsFound plan old)
  pub failed : IsErrOf found Failed → SomeReadFails plan old new
  pub same_counts : found ≢ Err Failed → SameCounts old new
  pub only : OnlyReads old new

-- the status of a run that ended so
abbrev pub status_after : Result Status Stop → Status
status_after (Ok status) = status
status_after (Err Failed) = statuses.Failed
status_after (Err NoMemory) = statuses.NoMemory

-- All that a run promises, whatever its command.
pub record HasRun {D : Type 0} (plan : Plan D) (old new : Seen) (status : ℕ) : Type 0 where
  -- What is written, and the status, are due for contents that agree with all that is told of the files read.
  pub due : status ≢ 6 → status ≢ 7 → DeliversDue plan old new status
  -- Where the contents of these files are told, nothing else is written or answered.
  pub exactly : status ≢ 6 → status ≢ 7 → (contents : Contents) → AreTold plan old contents
      → (due : D) → plan.owes contents due → Delivers plan old new due status
  -- 6 stands for a failed file, and each failed file ends the run with 6.
  pub failed : status ≡ 6 → SomeWriteFails plan old new ⊎ SomeReadFails plan old new
  pub no_fault : status ≢ 6 → SameCounts old new
  -- What was due by then came so far.
  pub front : status ≡ 6 → WritesNothing old new ⊎ WritesFront plan old new
  -- 7 stands for want of memory, before anything is written.
  pub memory : status ≡ 7 → WritesNothing old new
  -- Every file that the plan doesn't name is as before, and no count of faults fell.
  pub only : OnlyWritesAmong plan.files old new
