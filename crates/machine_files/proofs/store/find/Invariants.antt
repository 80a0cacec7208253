-- None of the files so far has the name.
use Rattle.std.proofs.Common.{◌≡◌, drop}
use Rattle.machine_files.specs.Stored.{entry_from, names_of}
use Rattle.machine_files.proofs.store.find.Given as goal

abbrev pub invariant-loop-number : goal.invariant-loop-number
invariant-loop-number l = entry_from l.number (names_of (drop l.number l.files)) l.name ≡ entry_from 0 (names_of l.files) l.name
