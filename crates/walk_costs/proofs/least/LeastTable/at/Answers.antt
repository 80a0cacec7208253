use Rattle.std.proofs.Common.{get_or, arith}
use Rattle.std.proofs.lemmas.Nat.{mul-add-lt}
use Rattle.walk_costs.specs.Leasts.{place_of_run}
use Rattle.walk_costs.proofs.LeastLaws.{place_lt}
use Rattle.walk_costs.proofs.least.LeastTable.at.Goals as goal

pub index-requires : goal.index-requires
index-requires c =
    let own = c.args.self.now in
    let runs = c.requires.run in
    let lt = place_lt c.args.announced c.args.run runs.0 runs.1 in
    omega (
      arith,
      c.kind-kind.ensures,
      mul-add-lt c.args.p own.kinds (get_or own.places.items (place_of_run c.args.announced c.args.run) 0) 60 c.requires.second
          (runs.2.within (place_of_run c.args.announced c.args.run) lt),
      runs.2.costs,
      own.costs.ok.0,
    )
