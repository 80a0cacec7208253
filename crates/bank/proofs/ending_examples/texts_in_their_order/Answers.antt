-- One text is being written, those before it are whole, and those behind it untouched.
use Rattle.std.proofs.Common.{codes, inl, inr, refl}
use Rattle.bank.proofs.ending_examples.texts_in_their_order.Goals as goal

pub returns-clause-half : goal.returns-clause-half
returns-clause-half c = inl (inr (inr (codes "ab", codes "cd", refl, inl refl)), (inl refl, tt))

pub returns-clause-half_of_the_report : goal.returns-clause-half_of_the_report
returns-clause-half_of_the_report c = inr (inl refl, inl (inr (inr (codes "no", codes "ne", refl, inl refl)), tt))

pub returns-clause-one_behind_the_other : goal.returns-clause-one_behind_the_other
returns-clause-one_behind_the_other c = inr (inl refl, inl (inr (inr (codes "c", codes "d", refl, inl refl)), (inl refl, tt)))
