-- The lines of the frames so far.
use Rattle.std.proofs.Common.{◌≡◌, ◌*◌, ◌≤◌, take}
use Rattle.std.specs.List.{flat_map}
use Rattle.arrayvec.specs.ArrayString.{array_string_len}
use Rattle.formats.specs.Frames.{frame_line}
use Rattle.texts.proofs.frames.list_of.Given as goal

abbrev pub invariant-loop-i : goal.invariant-loop-i
invariant-loop-i l = record {
  bytes : l.list.bytes ≡ flat_map frame_line (take l.i l.frames);
  len : array_string_len l.list ≤ 64 * l.i;
}
