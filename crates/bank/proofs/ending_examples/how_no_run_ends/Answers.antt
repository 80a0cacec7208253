-- A run's clauses, each at the run that it refuses.
use Rattle.std.proofs.Common.{◌≡◌, ℕ, List, [], codes, ap, refl, arith}
use Rattle.due.specs.Outputs.{standard_output}
use Rattle.bank.proofs.ExampleLaws.{names_differ, not_emptied, not_filled}
use Rattle.bank.proofs.ending_examples.how_no_run_ends.Goals as goal

pub returns-clause-fault_without_six : goal.returns-clause-fault_without_six
returns-clause-fault_without_six c words old new status other run =
    let counted : 1 ≡ 0 = ap (λ (counts : List ℕ → ℕ). counts []) (run.no_fault other).of_writes in omega (arith, counted)

pub returns-clause-seven_and_printed : goal.returns-clause-seven_and_printed
returns-clause-seven_and_printed c words run = not_filled _ _ (run.memory refl standard_output)

pub returns-clause-configuration_emptied : goal.returns-clause-configuration_emptied
returns-clause-configuration_emptied c status run = not_emptied _ _ (run.only.others (codes "k.toml") (names_differ _ _ refl, tt))
