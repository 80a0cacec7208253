use Rattle.std.proofs.Common.{◌+◌, ◌<◌, ◌≤◌, ℕ, get_or}
use Rattle.field_tables.proofs.season_floor.least_of.Given as goal

abbrev pub invariant-loop-m : goal.invariant-loop-m
invariant-loop-m l = record { each : (m : ℕ) → m < l.m → l.least ≤ get_or l.row m 0 + get_or l.given m 0 }
