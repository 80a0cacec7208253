-- The costs are computed.
use Rattle.std.proofs.Common.{refl, sym, ◌∙◌, arith}
use Rattle.sweep_due.proofs.ExampleLaws.{each_cost, first_cost, least_cost, not_before_two, silent_first, silent_least}
use Rattle.sweep_due.proofs.examples.costs_of_a_sweep.Goals as goal

pub returns : goal.returns
returns c = record {
  each = each_cost;
  least = least_cost;
  offset = record { swept = (omega arith, refl); cost = first_cost ∙ sym least_cost; least = λ j swept e. not_before_two j swept };
  tie = record { swept = (omega arith, refl); cost = silent_first ∙ sym silent_least; least = λ j swept e. not_before_two j swept };
}
