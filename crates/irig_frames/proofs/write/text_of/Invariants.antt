-- What is written so far, and the pulses of the other elements, are the whole text.
use Rattle.std.proofs.Common.{◌≡◌, ◌+◌, ◌*◌, ◌≤◌, ◌++◌, drop, length}
use Rattle.arrayvec.specs.ArrayString.{array_string_len}
use Rattle.formats.specs.Frames.{pulses}
use Rattle.irig_frames.proofs.write.text_of.Given as goal

abbrev pub invariant-loop-i : goal.invariant-loop-i
invariant-loop-i l = record {
  so_far : l.text.bytes ++ pulses l.ms (drop l.i l.elements) ≡ pulses l.frame.at l.elements;
  time : l.ms ≡ l.frame.at + 10 * l.i;
  room : array_string_len l.text ≤ 46 * l.i;
  long : length l.elements ≡ 100;
}
