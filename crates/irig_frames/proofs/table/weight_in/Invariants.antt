-- The elements before the place have other numbers.
use Rattle.std.proofs.Common.{◌≡◌, IsTrue, drop, nat_lt}
use Rattle.std.specs.List.{list_all}
use Rattle.definitions.specs.codes.Vocabulary.{weight_of}
use Rattle.irig_frames.proofs.table.weight_in.Given as goal

abbrev pub invariant-loop-weight : goal.invariant-loop-weight
invariant-loop-weight l = record {
  same : weight_of (drop l.weight-index l.weights) l.i ≡ weight_of l.weights l.i;
  positive : IsTrue (list_all (λ w. nat_lt 0 w.1) (drop l.weight-index l.weights));
}
