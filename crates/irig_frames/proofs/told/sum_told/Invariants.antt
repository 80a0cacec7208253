-- The sum so far.
use Rattle.std.proofs.Common.{◌≡◌, ◌*◌, ◌≤◌, take}
use Rattle.formats.specs.Frames.{told}
use Rattle.irig_frames.proofs.told.sum_told.Given as goal

abbrev pub invariant-loop-weight : goal.invariant-loop-weight
invariant-loop-weight l = record {
  so_far : l.sum ≡ told (take l.weight-index l.weights) l.found;
  bound : l.sum ≤ 65_025 * l.weight-index;
}
