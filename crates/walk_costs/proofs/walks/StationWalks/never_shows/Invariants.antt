use Rattle.std.proofs.Common.{◌<◌, ◌≤◌, ℕ}
use Rattle.minute_parts.specs.Runs.{first_of}
use Rattle.walk_costs.proofs.AnnouncedLaws.{IsAlikeAt}
use Rattle.walk_costs.proofs.walks.StationWalks.never_shows.Given as goal

abbrev pub invariant-loop-i : goal.invariant-loop-i
invariant-loop-i l = record {
  alike : (t : ℕ) → l.lo ≤ t → t < first_of l.self.parts.runs l.i → IsAlikeAt l.self.parts t;
}
