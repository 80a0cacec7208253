use Rattle.std.proofs.Common.{length, take, ◌-◌, ◌≤◌}
use Rattle.bank_files.specs.Told.{appended, Tells}
use Rattle.bank_files.specs.Seen.{SameCounts, OnlyWrites}
use Rattle.bank_files.proofs.whole.write_all.Given as goal

-- the bytes so far are appended, and no call failed
abbrev pub invariant-loop-done : goal.invariant-loop-done
invariant-loop-done g l =
    let before = g.F.Files.view l.fn.files in
    let now = g.F.Files.view l.files in
    record {
      within : l.done ≤ length l.bytes;
      so_far : Tells (appended (before.told l.name) (take l.done l.bytes)) (now.told l.name);
      same_counts : SameCounts before now;
      only : OnlyWrites l.name before now;
    }

abbrev pub decreases-loop-done : goal.decreases-loop-done
decreases-loop-done g l = length l.bytes - l.done
