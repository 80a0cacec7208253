-- The sums of the receivers so far.
use Rattle.std.proofs.Common.{◌≡◌, length, map, take}
use Rattle.formats.specs.Heard.{numbered_from, receiver_sum}
use Rattle.heard.specs.Seen.{hearing_seen}
use Rattle.heard.proofs.hearing.Hearing.sums.Given as goal

abbrev pub invariant-loop-i : goal.invariant-loop-i
invariant-loop-i l = record {
  sums : l.list ≡ map (receiver_sum (hearing_seen l.self)) (numbered_from 1 (take l.i (hearing_seen l.self).receivers));
  count : length l.list ≡ l.i;
}
