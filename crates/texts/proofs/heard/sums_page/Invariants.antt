-- The lines so far.
use Rattle.std.proofs.Common.{◌≡◌, ◌*◌, take}
use Rattle.std.specs.List.{flat_map}
use Rattle.formats.specs.Heard.{sum_line}
use Rattle.texts.proofs.heard.sums_page.Given as goal

abbrev pub invariant-loop-sum : goal.invariant-loop-sum
invariant-loop-sum l = record {
  bytes : l.page.text.bytes ≡ flat_map sum_line (take l.sum-index l.sums);
  lines : l.page.lines ≡ 2 * l.sum-index;
}
