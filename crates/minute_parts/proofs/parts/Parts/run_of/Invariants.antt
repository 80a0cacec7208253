use Rattle.std.proofs.Common.{◌<◌, ◌≤◌, length}
use Rattle.minute_parts.specs.Runs.{first_of}
use Rattle.minute_parts.proofs.parts.Parts.run_of.Given as goal

abbrev pub invariant-loop-i : goal.invariant-loop-i
invariant-loop-i l = record {
  within : l.i < length l.self-inside.runs.items;
  begun : first_of l.self-inside.runs.items l.i ≤ l.t;
}
