use Rattle.std.proofs.Common.{◌≡◌, IsTrue, drop, nat_lt}
use Rattle.std.specs.List.{list_all}
use Rattle.definitions.specs.codes.Vocabulary.{weight_of}
use Rattle.telegram_fields.proofs.field.Field.weight_of.Given as goal

abbrev pub invariant-loop-weight : goal.invariant-loop-weight
invariant-loop-weight l = record {
  same : weight_of (drop l.weight-index l.weight-items) l.second ≡ weight_of l.weight-items l.second;
  positive : IsTrue (list_all (λ w. nat_lt 0 w.1) (drop l.weight-index l.weight-items));
}
