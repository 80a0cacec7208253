-- What a run did to a machine whose files it was given.
use Rattle.std.specs.Prelude.{ℕ, false}
use Rattle.bank_files.specs.Seen.{Seen}
use Rattle.due.specs.Plans.{Plan}
use Rattle.bank.specs.Ending.{HasRun}
use Rattle.machine_files.specs.Disk.{Disk}
use Rattle.machine_files.specs.Seeing.{IsSeenThrough, seen_of}

-- A run of this plan over the files of a machine, of which none had failed before. `old` and `new` are what the machine told of its
-- disk before the run and behind it, and no more faults were counted than the machine has had failures.
abbrev pub HasRunOn : {D : Type 0} → Plan D → Disk → Disk → ℕ → ℕ → Type 0
HasRunOn plan old new failures status = (seen : Seen) × IsSeenThrough new failures seen × HasRun plan (seen_of old false 0) seen status
