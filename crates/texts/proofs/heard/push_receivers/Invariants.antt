-- The lines so far.
use Rattle.std.proofs.Common.{◌≡◌, ◌+◌, ◌*◌, ◌++◌, take}
use Rattle.std.specs.List.{flat_map}
use Rattle.formats.specs.Heard.{receiver_line}
use Rattle.texts.proofs.heard.push_receivers.Given as goal

abbrev pub invariant-loop-receiver : goal.invariant-loop-receiver
invariant-loop-receiver l = record {
  bytes : l.page.text.bytes ≡ l.fn.page.text.bytes ++ flat_map receiver_line (take l.receiver-index l.receivers);
  lines : l.page.lines ≡ l.fn.page.lines + 2 * l.receiver-index;
}
