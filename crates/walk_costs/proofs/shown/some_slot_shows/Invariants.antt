use Rattle.std.proofs.Common.{◌≡◌, ◌<◌, ◌≤◌, ℕ, false}
use Rattle.walk_costs.specs.Shown.{shows_in}
use Rattle.walk_costs.proofs.shown.some_slot_shows.Given as goal

abbrev pub invariant-loop-k : goal.invariant-loop-k
invariant-loop-k l = record { none : (k : ℕ) → k < l.k → l.from ≤ k → shows_in l.parts l.run l.u l.p k ≡ false }
