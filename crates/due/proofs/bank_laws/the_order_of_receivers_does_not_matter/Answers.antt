-- The law, from its lemmas.
use Rattle.std.proofs.Common.{subst, sym}
use Rattle.definitions.specs.answers.Answers.{IsWindowAnswer}
use Rattle.definitions.specs.heard.Costs.{Costs}
use Rattle.due.proofs.StationLaws.{same_costs, same_first_time, same_phase, same_receptions, same_stations, same_window}
use Rattle.due.proofs.bank_laws.the_order_of_receivers_does_not_matter.Goals as goal

pub returns : goal.returns
returns c = record {
  heard = same_receptions;
  stations = same_stations;
  phase = same_phase;
  first = same_first_time;
  window = same_window;
  costs = same_costs;
  answers = λ window bank answer. (
    subst (λ (costs : Costs). IsWindowAnswer window costs bank.ceiling answer) (same_costs window bank),
    subst (λ (costs : Costs). IsWindowAnswer window costs bank.ceiling answer) (sym (same_costs window bank)),
  );
}
