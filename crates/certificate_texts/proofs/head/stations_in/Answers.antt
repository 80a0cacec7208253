-- This mask isn't named either.
use Rattle.std.proofs.Common.{sym, ◌∙◌, arith}
use Rattle.std.proofs.lemmas.Bool.{false≢true}
use Rattle.certificate_texts.proofs.HeadLaws.{none_before}
use Rattle.certificate_texts.proofs.head.stations_in.Goals as goal

pub loop-mask-preserved : goal.loop-mask-preserved
loop-mask-preserved c = record {
  some = omega arith;
  few = omega (arith, c.loop-mask-test.true);
  none = none_before c.args.before c.args.text.now c.loop-mask.mask c.loop-mask.invariant.none (λ is. false≢true (sym c.if-names.false ∙ c.names.ensures.1 is));
}
