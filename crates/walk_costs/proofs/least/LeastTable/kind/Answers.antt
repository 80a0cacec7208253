use Rattle.std.proofs.Common.{arith}
use Rattle.walk_costs.proofs.LeastLaws.{place_lt}
use Rattle.walk_costs.proofs.least.LeastTable.kind.Goals as goal

pub place_of_run-requires : goal.place_of_run-requires
place_of_run-requires c =
    let runs = c.requires in
    omega (arith, runs.1, runs.2.places, c.args.self.now.places.ok.0, c.args.self.now.places.small)

pub index-requires : goal.index-requires
index-requires c =
    let runs = c.requires in
    omega (arith, c.place_of_run.ensures, place_lt c.args.announced c.args.run runs.0 runs.1, runs.2.places, c.args.self.now.places.ok.0)
