-- What walks cost at the least that lie among many runs.
use Rattle.std.specs.Prelude.{ℕ, ◌≡◌, ◌⊎◌, ◌+◌, ◌<◌, ◌≤◌, false, length, slice_index}
use Rattle.minute_parts.specs.Parts.{PartTable}
use Rattle.minute_parts.specs.Runs.{end_of_run, run_at}
use Rattle.slot_columns.specs.Parts.{IsLeastOfChange, IsLeastOfEither}
use Rattle.slot_columns.specs.declared.limits.TheConstants.{SECONDS_PER_MINUTE}
use Rattle.walk_costs.specs.declared.least.LeastWalks.{LeastWalks}
use Rattle.walk_costs.specs.declared.span.DateSpan.{DateSpan}
use Rattle.walk_costs.specs.declared.span.SpanCosts.{SpanCosts}
use Rattle.walk_costs.specs.declared.span.TheConstants.{MOST_LATER}
use Rattle.walk_costs.specs.Crossings.{IsAcross}
use Rattle.walk_costs.specs.Leasts.{place_of_run}
use Rattle.walk_costs.specs.Spans.{HoldsDates}
use Rattle.walk_costs.specs.Walks.{IsRegularIn, PricedParts}

-- what sets cost from a second on that hold the dates of some runs: where a walk tells one of these dates in all its minutes, and
-- where it tells one in its first minutes and another in the others
pub record AreSpanCosts (w : PricedParts) (costs : SpanCosts) : Type 0 where
  pub span : DateSpan
  pub holds : HoldsDates w.parts w.grid.station span
  pub second : costs.second < SECONDS_PER_MINUTE
  pub from : costs.from ≡ span.from
  pub to : costs.to ≡ span.to
  pub cost : IsLeastOfEither w.grid costs.second span.one span.other costs.cost
  pub across : IsLeastOfChange w.grid costs.second span.one span.other costs.across

-- the walk of an unannounced sequence lies in the run i, or goes on to the next, which encodes the local time alike
abbrev pub StaysNear : PricedParts → ℕ → ℕ → ℕ → Type 0
StaysNear w p t0 i = IsRegularIn w false p t0 i ⊎ IsAcross w false p t0 i

-- the run r is followed by one that encodes the local time alike, and in which a walk ends that begins in r
pub record IsFollowed (parts : PartTable) (r : ℕ) : Type 0 where
  pub next : r + 1 < length parts.runs
  pub alike : (run_at parts.runs (r + 1)).shift ≡ (run_at parts.runs r).shift
  pub long : end_of_run parts.runs parts.end r + MOST_LATER ≤ end_of_run parts.runs parts.end (r + 1)

-- the run r is followed by one among the runs of which the costs are, and the walks that begin in it are of the kinds of those that begin
-- in the run i
pub record IsAlike (parts : PartTable) (least : LeastWalks) (costs : SpanCosts) (i r : ℕ) : Type 0 where
  pub followed : IsFollowed parts r
  pub from : costs.from ≤ r
  pub to : r + 1 < costs.to
  pub inside : slice_index least.inside.places.items (place_of_run false r) ≡ slice_index least.inside.places.items (place_of_run false i)
  pub across : slice_index least.across.places.items (place_of_run false r) ≡ slice_index least.across.places.items (place_of_run false i)
