-- The checker stands for the bytes so far, which are the file's front, if its bytes are told; and no call failed.
use Rattle.std.proofs.Common.{List, ℕ, ◌≡◌, ◌+◌, ◌-◌, ◌≤◌, length}
use Rattle.bank_files.specs.Seen.{SameCounts, OnlyReads}
use Rattle.certificates.specs.declared.limits.TheConstants.{CERTIFICATE_LIMIT}
use Rattle.certificate_judge.specs.Checking.{StandsFor}
use Rattle.checks.proofs.PieceLaws.{IsFrontOf}
use Rattle.checks.proofs.reading.judge_file.Given as goal

abbrev pub invariant-loop-n : goal.invariant-loop-n
invariant-loop-n g l =
    let before = g.F.Files.view l.fn.files in
    let now = g.F.Files.view l.files in
    record {
      within : l.at ≤ CERTIFICATE_LIMIT;
      bytes : List ℕ;
      place : l.at ≡ length bytes;
      stands : StandsFor l.checker l.fn.tables l.ceiling bytes;
      front : IsFrontOf (before.told l.name) bytes;
      same_counts : SameCounts before now;
      only : OnlyReads before now;
    }

-- how many bytes may still come
abbrev pub decreases-loop-n : goal.decreases-loop-n
decreases-loop-n g l = CERTIFICATE_LIMIT + 1 - l.at
