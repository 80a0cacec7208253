use Rattle.std.proofs.Common.{◌≡◌, ◌≤◌, take}
use Rattle.definitions.specs.codes.Vocabulary.{ones}
use Rattle.telegram_fields.proofs.field.Field.ones.Given as goal

abbrev pub invariant-loop-weight : goal.invariant-loop-weight
invariant-loop-weight l = record {
  so_far : l.count ≡ ones (take l.weight-index l.weight-items) l.self-inside.value;
  bound : l.count ≤ l.weight-index;
}
