use Rattle.walk_costs.proofs.walks.StationWalks.shows.Goals as goal

pub returns-in-Never : goal.returns-in-Never
returns-in-Never c = (λ no. cc, λ shows. absurd (c.in-Never.ensures c.args.t0 c.requires shows))
