-- What is told of the receivers so far.
use Rattle.std.proofs.Common.{◌≡◌, ◌≤◌, length, take}
use Rattle.formats.specs.Heard.{numbered_from}
use Rattle.heard.specs.Kept.{heard_among}
use Rattle.heard.specs.Seen.{hearing_seen}
use Rattle.heard.proofs.hearing.Hearing.receivers.Given as goal

abbrev pub invariant-loop-i : goal.invariant-loop-i
invariant-loop-i l = record {
  heard : l.list ≡ heard_among (hearing_seen l.self) l.slot l.station (numbered_from 1 (take l.i (hearing_seen l.self).receivers));
  few : length l.list ≤ l.i;
}
