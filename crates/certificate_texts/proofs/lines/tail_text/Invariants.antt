-- What is written so far, and the lines of the other parts, are the whole.
use Rattle.std.proofs.Common.{◌≡◌, ◌+◌, ◌*◌, ◌≤◌, ◌-◌, ◌++◌}
use Rattle.arrayvec.specs.ArrayString.{array_string_len}
use Rattle.certificates.specs.Texts.{entries_text, part_entries}
use Rattle.certificate_texts.specs.Layout.{empty_parts}
use Rattle.certificate_texts.proofs.lines.tail_text.Given as goal

abbrev pub invariant-loop-part : goal.invariant-loop-part
invariant-loop-part l = record {
  so_far : l.text.bytes ++ entries_text (part_entries l.part (empty_parts (l.parts - l.part))) ≡ entries_text (part_entries 1 (empty_parts (l.parts - 1)));
  some : 1 ≤ l.part;
  most : l.part ≤ 8;
  room : array_string_len l.text + 28 ≤ 28 * l.part;
}

abbrev pub decreases-loop-part : goal.decreases-loop-part
decreases-loop-part l = l.parts - l.part
