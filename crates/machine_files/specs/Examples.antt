-- A worked machine: one file, `k.toml`, and a standard output.
use Rattle.std.specs.Prelude.{ℕ, List, [], ◌∷◌, codes}
use Rattle.machine_files.specs.Disk.{Disk}
use Rattle.machine_files.specs.Stored.{disk_of}

-- the disk on which the file has these bytes, and these were printed
abbrev pub disk_with : List ℕ → List ℕ → Disk
disk_with bytes printed = disk_of (codes "k.toml" ∷ []) (bytes ∷ []) printed
