-- The block isn't any of those so far.
use Rattle.std.proofs.Common.{◌-◌, ℕ, ◌≢◌, ◌<◌, ◌≤◌, get_or}
use Rattle.definitions.specs.declared.block.Block.{Block}
use Rattle.certificate_judge.proofs.begun.Begun.place_in.Given as goal

abbrev pub invariant-loop-place : goal.invariant-loop-place
invariant-loop-place l = record {
  others : (k : ℕ) (d : Block) → l.from ≤ k → k < l.place → get_or l.self.items.now k d ≢ l.block;
}

abbrev pub decreases-loop-place : goal.decreases-loop-place
decreases-loop-place l = l.to - l.place
