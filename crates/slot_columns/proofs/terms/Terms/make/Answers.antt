use Rattle.std.proofs.Common.{◌<◌, List, refl, subst, sym, ◌∙◌, arith}
use Rattle.std.proofs.lemmas.List.{length-set}
use Rattle.slot_columns.specs.declared.terms.Term.{Term}
use Rattle.slot_columns.specs.Layered.{AreTermsOf}
use Rattle.slot_columns.proofs.MarkLaws.{are_alike}
use Rattle.slot_columns.proofs.TermLaws.{no_terms, terms_more}
use Rattle.slot_columns.proofs.terms.Terms.make.Goals as goal

pub loop-s-init : goal.loop-s-init
loop-s-init c = record {
  long_first = refl;
  long_later = refl;
  are = subst (λ (terms : List Term). AreTermsOf c.args.firsts.now c.args.rests.now _ _ terms 0) (sym c.new-terms.ensures.items)
      (no_terms c.args.firsts.now c.args.rests.now _ _);
}

pub loop-s-preserved : goal.loop-s-preserved
loop-s-preserved c =
    let s = c.loop-s.s in
    let before = c.loop-s.invariant in
    let differ = c.differences_of-differ in
    let x = c.common_of-in_first in
    let y = c.common_of-in_later in
    let second : s < 60 = omega (arith, c.loop-s-test.true) in
    record {
      long_first = length-set c.loop-s.first s x.result.set ∙ before.long_first;
      long_later = length-set c.loop-s.later s y.result.set ∙ before.long_later;
      are = terms_more c.args.firsts.now c.args.rests.now c.loop-s.first c.loop-s.later c.loop-s.terms.items c.add_second.new.terms.items s x.result y.result
          _ second before.are x.ensures y.ensures
          (are_alike c.args.firsts.now c.args.rests.now differ.result.within s second differ.ensures.within) c.in_ok-add_second.ensures
          (omega (arith, second, before.long_first)) (omega (arith, second, before.long_later));
    }
