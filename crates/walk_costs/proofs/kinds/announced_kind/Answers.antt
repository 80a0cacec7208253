use Rattle.std.proofs.Common.{ℕ, subst}
use Rattle.minute_parts.specs.Runs.{run_at}
use Rattle.walk_costs.specs.Kinds.{IsToldAlike}
use Rattle.walk_costs.proofs.LeastLaws.{announced_alike}
use Rattle.walk_costs.proofs.kinds.announced_kind.Goals as goal

pub returns-then-are_told_alike : goal.returns-then-are_told_alike
returns-then-are_told_alike c =
    let runs = c.args.parts.now.runs in
    let alike = c.are_told_alike.ensures c.if-are_told_alike.true in
    announced_alike c.args.parts.now c.args.station c.args.across c.args.run c.args.without.now c.requires.without alike.0
    (λ within. subst (λ (j : ℕ). IsToldAlike (run_at runs j)) (c.end_in-end.ensures.end within) alike.1)
