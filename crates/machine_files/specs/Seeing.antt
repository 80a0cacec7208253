-- What is seen of files through a machine.
use Rattle.std.specs.Prelude.{ℕ, ◌≡◌, ◌<◌, ◌≤◌, Bool, true, List, if◌then◌else◌}
use Rattle.std.specs.Str.{bytes_eq}
use Rattle.bank_files.specs.Told.{Told, Untold, output_name}
use Rattle.bank_files.specs.Seen.{Seen}
use Rattle.machine_files.specs.Disk.{Disk, told_at}

-- What is told of a name: of standard output what it has got, of any other name what the disk tells of it. Once files are in doubt, nothing is told of theirs.
abbrev pub told_of : Disk → Bool → List ℕ → Told
told_of disk in_doubt name = if bytes_eq name output_name then disk.output else (if in_doubt then Untold else told_at disk (disk.entry name))

-- what is told of each name, and one count of faults, which serves for all
abbrev pub seen_of : Disk → Bool → ℕ → Seen
seen_of disk in_doubt faults = record { told = told_of disk in_doubt; read_faults = λ _. faults; write_faults = λ _. faults }

-- So files are seen of which no more faults were counted than their machine has had failures, and which are in doubt only where a fault was counted.
abbrev pub IsSeenThrough : Disk → ℕ → Seen → Type 0
IsSeenThrough disk failures seen =
    (in_doubt : Bool) × (faults : ℕ) × (faults ≤ failures) × (in_doubt ≡ true → 0 < faults) × (seen ≡ seen_of disk in_doubt faults)
