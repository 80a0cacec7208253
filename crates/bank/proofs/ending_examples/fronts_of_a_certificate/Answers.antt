-- Half of the text was written.
use Rattle.std.proofs.Common.{codes, inl, inr, refl}
use Rattle.bank.proofs.ending_examples.fronts_of_a_certificate.Goals as goal

pub returns-clause-half : goal.returns-clause-half
returns-clause-half c = inr (inr (codes "ab", codes "cd", refl, inl refl))
