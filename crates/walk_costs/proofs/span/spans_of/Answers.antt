use Rattle.std.proofs.Common.{All, sym, subst}
use Rattle.std.proofs.lemmas.List.Elements.{All-push}
use Rattle.walk_costs.specs.Spans.{HoldsDates}
use Rattle.walk_costs.proofs.span.spans_of.Goals as goal

pub returns : goal.returns
returns c =
    subst (All (HoldsDates c.args.parts.now c.args.station)) (sym c.in_ok-push.ensures.items)
    (All-push (HoldsDates c.args.parts.now c.args.station) c.loop-i.spans.items c.loop-i.span c.loop-i.invariant.others c.loop-i.invariant.holds)
