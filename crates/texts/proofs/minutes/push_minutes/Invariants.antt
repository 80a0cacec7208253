use Rattle.std.proofs.Common.{◌≡◌, ◌+◌, ◌*◌, ◌≤◌, ◌++◌}
use Rattle.definitions.specs.sequences.Walks.{place_at}
use Rattle.formats.specs.Reports.{at_minutes}
use Rattle.texts.proofs.MinuteLaws.{since_minute}
use Rattle.texts.proofs.minutes.push_minutes.Given as goal

abbrev pub invariant-loop-slot : goal.invariant-loop-slot
invariant-loop-slot g l = record {
  place : l.place ≡ place_at l.q l.slot;
  second : l.place.1 ≤ 60;
  bytes : l.page.text.bytes ≡ l.fn.page.text.bytes ++ at_minutes (g.M.MinuteText.text l.minutes) l.q l.slot;
  fits : 60 * l.page.lines + since_minute l.place.1 ≤ 60 * l.fn.page.lines + 60 + l.slot;
}
