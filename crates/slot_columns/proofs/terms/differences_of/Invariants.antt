use Rattle.slot_columns.specs.Layered.{AgreeBut, part_at}
use Rattle.slot_columns.proofs.terms.differences_of.Given as goal

abbrev pub invariant-loop-i : goal.invariant-loop-i
invariant-loop-i l = record {
  first : AgreeBut l.first (part_at l.firsts) (λ i. part_at l.firsts 0) l.i;
  later : AgreeBut l.later (part_at l.rests) (λ i. part_at l.rests 0) l.i;
  within : AgreeBut l.within (part_at l.firsts) (part_at l.rests) l.i;
}
