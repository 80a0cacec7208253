use Rattle.std.proofs.Common.{◌+◌, ◌<◌, ◌≤◌, ℕ, get_or}
use Rattle.walk_costs.proofs.least.least_of.Given as goal

abbrev pub invariant-loop-m : goal.invariant-loop-m
invariant-loop-m l = record {
  each : (m : ℕ) → l.begins.first ≤ m → m < l.m → l.least ≤ get_or l.begins.costs m 0 + get_or l.low m 0 + get_or l.middle m 0 + get_or l.high m 0;
}
