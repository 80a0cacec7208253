-- The first of the two letters was written.
use Rattle.std.proofs.Common.{codes, inl, inr, refl}
use Rattle.bank_files.proofs.examples.what_a_failed_write_leaves.Goals as goal

pub returns-clause-front : goal.returns-clause-front
returns-clause-front c = inr (codes "a", codes "b", refl, inl refl)
