-- The law, from its lemmas.
use Rattle.sweep_due.proofs.SweepDueLaws.{one_sweep_due, some_sweep_due}
use Rattle.sweep_due.proofs.laws.one_thing_is_due_of_a_sweep.Goals as goal

pub returns : goal.returns
returns c = record { some = λ words contents. some_sweep_due contents words; one = λ words contents. one_sweep_due contents words }
