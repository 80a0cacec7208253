-- What is told of the operating system's disk: nothing.
use Rattle.std.specs.Prelude.{◌≢◌}
use Rattle.bank_files.specs.Told.{Untold, Missing}
use Rattle.machine_files.specs.Disk.{Unknown, Disk}

-- a disk of which nothing is told
abbrev pub untold_disk : Disk
untold_disk = record { entry = λ _. Unknown; inode = λ _. Untold; output = Untold }

-- of which nothing is told, that isn't told to be missing
pub untold_is_there : Untold ≢ Missing
untold_is_there = λ h. cc
