-- Windows whose numbers are in their ranges.
use Rattle.std.specs.Prelude.{◌<◌, ◌≤◌}
use Rattle.signal_base.specs.declared.window.Window.{Window}
use Rattle.signal_base.specs.declared.limits.TheConstants.{LEAST_SECONDS, MOST_SECONDS, START_LIMIT}
use Rattle.definitions.specs.time.Calendar.{century_minutes}

-- Some of the four stations are heard, from a second of the receivers' clock on, and some minutes of the century are
-- asked for.
pub record IsWindow (window : Window) : Type 0 where
  pub some_station : 1 ≤ window.stations.mask
  pub stations : window.stations.mask ≤ 15
  pub start : window.start < START_LIMIT
  pub phase : window.phase < 1000
  pub not_short : LEAST_SECONDS ≤ window.seconds
  pub not_long : window.seconds ≤ MOST_SECONDS
  pub not_empty : window.from < window.to
  pub century : window.to ≤ century_minutes
