use Rattle.std.proofs.Common.{◌≡◌, ◌*◌, IsTrue, drop, length, nat_lt}
use Rattle.std.specs.List.{list_all}
use Rattle.telegram_fields.specs.Laying.{laid}
use Rattle.telegram_fields.proofs.field.Field.lay.Given as goal

abbrev pub invariant-loop-weight : goal.invariant-loop-weight
invariant-loop-weight l = record {
  long : length l.sets ≡ 61;
  same : laid (λ bit. l.one * bit) (drop l.weight-index l.weight-items) l.self-inside.value l.sets ≡ laid (λ bit. l.one * bit) l.weight-items l.self-inside.value l.fn.sets;
  within : IsTrue (list_all (λ w. nat_lt w.0 61) (drop l.weight-index l.weight-items));
  positive : IsTrue (list_all (λ w. nat_lt 0 w.1) (drop l.weight-index l.weight-items));
}
