-- The certificates of the swept offsets so far are valid, and no call failed.
use Rattle.bank_files.specs.Seen.{OnlyReads, SameCounts}
use Rattle.bank.specs.Hearing.{bank_seen}
use Rattle.judges.specs.Judging.{AreNamed, swept_below}
use Rattle.judges.proofs.offsets.judge_offsets.Given as goal

abbrev pub invariant-loop-offset : goal.invariant-loop-offset
invariant-loop-offset g l =
    let before = g.F.Files.view l.fn.files in
    let now = g.F.Files.view l.files in
    record {
      named : AreNamed before l.name l.window (bank_seen l.bank) (swept_below l.window.phase l.offset) l.standing;
      same_counts : SameCounts before now;
      only : OnlyReads before now;
    }
