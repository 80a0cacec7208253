use Rattle.std.proofs.Common.{List, ℕ, ◌≡◌, ◌+◌, ◌-◌, ◌≤◌, vec_len}
use Rattle.bank_files.specs.Told.{Holds}
use Rattle.bank_files.specs.Seen.{SameCounts, OnlyReads}
use Rattle.bank_files.proofs.Pieces.{IsFront}
use Rattle.bank_files.proofs.whole.read_into.Given as goal

-- the bytes so far are the file's front, if its bytes are told, and no call failed
abbrev pub invariant-loop-n : goal.invariant-loop-n
invariant-loop-n g l =
    let before = g.F.Files.view l.fn.files in
    let now = g.F.Files.view l.files in
    record {
      within : vec_len l.bytes ≤ l.limit;
      front : (file : List ℕ) → before.told l.name ≡ Holds file → IsFront l.bytes.items file;
      same_counts : SameCounts before now;
      only : OnlyReads before now;
    }

-- how many bytes may still come
abbrev pub decreases-loop-n : goal.decreases-loop-n
decreases-loop-n g l = l.limit + 1 - vec_len l.bytes
