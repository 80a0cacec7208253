use Rattle.plain_bounds.proofs.plain.legal_cost.Goals as goal

pub returns : goal.returns
returns c = (c.legal.ensures.0 c.if-not-legal.false, c.plain_cost.ensures.cost)
