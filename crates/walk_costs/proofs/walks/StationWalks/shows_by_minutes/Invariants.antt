use Rattle.std.proofs.Common.{◌+◌, ◌/◌, ◌<◌, ◌≤◌, ℕ, length}
use Rattle.minute_parts.specs.Parts.{IsInRun}
use Rattle.walk_costs.proofs.AnnouncedLaws.{IsSilent}
use Rattle.walk_costs.proofs.walks.StationWalks.shows_by_minutes.Given as goal

abbrev pub invariant-loop-i : goal.invariant-loop-i
invariant-loop-i l = record {
  here : IsInRun l.self.parts (l.t0 + (l.p + l.from) / 60) l.i;
  within : l.from ≤ length l.self.grid.rows;
  silent : (k : ℕ) → k < l.from → IsSilent l.self l.p l.t0 k;
}
