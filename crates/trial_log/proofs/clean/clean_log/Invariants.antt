use Rattle.std.proofs.Common.{◌≡◌, ◌+◌, ◌*◌}
use Rattle.definitions.specs.sequences.Walks.{place_at}
use Rattle.trial_log.specs.Clean.{changes, clean_level, level_before}
use Rattle.trial_log.proofs.clean.clean_log.Given as goal

abbrev pub invariant-loop-slot : goal.invariant-loop-slot
invariant-loop-slot l = record {
  place : l.place ≡ place_at l.q l.slot;
  records : l.records.items ≡ changes (clean_level l.station l.q) (1000 * l.slot);
  before : l.before ≡ level_before (clean_level l.station l.q) (1000 * l.slot);
}

abbrev pub invariant-loop-tenth : goal.invariant-loop-tenth
invariant-loop-tenth l = record {
  records : l.records.items ≡ changes (clean_level l.station l.q) (1000 * l.slot + 100 * l.tenth);
  before : l.before ≡ level_before (clean_level l.station l.q) (1000 * l.slot + 100 * l.tenth);
}
