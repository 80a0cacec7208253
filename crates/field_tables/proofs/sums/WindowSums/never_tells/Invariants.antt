use Rattle.std.proofs.Common.{ℕ, ◌<◌, ◌≤◌, true, slice_index_or}
use Rattle.walk_costs.specs.Walks.{IsRegularWalk, ShowsAnnouncement, last_minute}
use Rattle.field_tables.specs.Minutes.{no_walks}
use Rattle.field_tables.proofs.sums.WindowSums.never_tells.Given as goal

abbrev pub invariant-loop-station : goal.invariant-loop-station
invariant-loop-station l = (j p t0 : ℕ) → j < l.station-index → p < 60 → l.lo ≤ t0
    → last_minute (slice_index_or l.self.stations j no_walks) p t0 ≤ l.last → IsRegularWalk (slice_index_or l.self.stations j no_walks) p t0
    → ¬ (ShowsAnnouncement (slice_index_or l.self.stations j no_walks) (record { first = t0; second = p; announced = true }))
