use Rattle.std.proofs.Common.{map, take}
use Rattle.bank_files.specs.Seen.{OnlyReads, SameCounts}
use Rattle.bank_config.specs.Configuration.{plain_receiver}
use Rattle.bank.specs.Loading.{AreRead}
use Rattle.bank.proofs.loading.read_logs.Given as goal

abbrev pub invariant-loop-i : goal.invariant-loop-i
invariant-loop-i g l = record {
  read : AreRead (g.F.Files.view l.initial.files) (map plain_receiver (take l.i l.receivers)) l.logs.items;
  counts : SameCounts (g.F.Files.view l.initial.files) (g.F.Files.view l.files);
  only : OnlyReads (g.F.Files.view l.initial.files) (g.F.Files.view l.files);
}
