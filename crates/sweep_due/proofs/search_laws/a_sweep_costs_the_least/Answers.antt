-- The law, from its lemmas.
use Rattle.sweep_due.proofs.AnswerLaws.{middle}
use Rattle.sweep_due.proofs.SweptCostLaws.{swept_below, swept_is}
use Rattle.sweep_due.proofs.search_laws.a_sweep_costs_the_least.Goals as goal

pub returns : goal.returns
returns c = record { below = swept_below; reached = λ window bank q phase. swept_is window bank q 5 (middle window.phase phase) }
