use Rattle.std.proofs.Common.{All, sym, subst}
use Rattle.std.proofs.lemmas.List.Elements.{All-push}
use Rattle.walk_costs.specs.Spans.{HoldsDates}
use Rattle.walk_costs.proofs.span.go_on.Goals as goal

pub returns-clause-spans : goal.returns-clause-spans
returns-clause-spans c = λ others.
    subst (All (HoldsDates c.args.parts.now c.args.station)) (sym c.in_ok-push.ensures.items)
    (All-push (HoldsDates c.args.parts.now c.args.station) c.args.spans.now.items c.args.span.now others c.requires.holds)
