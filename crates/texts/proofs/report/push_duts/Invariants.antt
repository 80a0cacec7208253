use Rattle.std.proofs.Common.{◌≡◌, ◌+◌, ◌++◌, take}
use Rattle.std.specs.List.{flat_map}
use Rattle.formats.specs.Reports.{dut_line}
use Rattle.texts.proofs.report.push_duts.Given as goal

abbrev pub invariant-loop-dut : goal.invariant-loop-dut
invariant-loop-dut l = record {
  bytes : l.page.text.bytes ≡ l.fn.page.text.bytes ++ flat_map (dut_line l.several) (take l.dut-index l.duts);
  lines : l.page.lines ≡ l.fn.page.lines + l.dut-index;
}
