-- The file is none of the outputs, and isn't as before.
use Rattle.std.proofs.Common.{codes, refl}
use Rattle.bank.proofs.ExampleLaws.{names_differ, not_emptied, not_made, not_removed}
use Rattle.bank.proofs.ending_examples.other_files_stay.Goals as goal

pub returns-clause-emptied : goal.returns-clause-emptied
returns-clause-emptied c leaves = not_emptied _ _ (leaves (codes "k.toml") (names_differ _ _ refl, (names_differ _ _ refl, tt)))

pub returns-clause-made : goal.returns-clause-made
returns-clause-made c leaves = not_made _ (leaves (codes "x") (names_differ _ _ refl, (names_differ _ _ refl, tt)))

pub returns-clause-removed : goal.returns-clause-removed
returns-clause-removed c leaves = not_removed _ (leaves (codes "k.toml") (names_differ _ _ refl, (names_differ _ _ refl, tt)))
