use Rattle.std.proofs.Common.{ℕ, ◌<◌, ◌≤◌, slice_index_or}
use Rattle.walk_costs.specs.Walks.{ShowsAnnouncement}
use Rattle.field_tables.specs.Minutes.{no_walks, sequence_at}
use Rattle.field_tables.proofs.sums.WindowSums.never_shows.Given as goal

abbrev pub invariant-loop-station : goal.invariant-loop-station
invariant-loop-station l = (j t0 : ℕ) → j < l.station-index → l.block.lo ≤ t0 → t0 < l.block.hi
    → ¬ (ShowsAnnouncement (slice_index_or l.self.stations j no_walks) (sequence_at l.block t0))
