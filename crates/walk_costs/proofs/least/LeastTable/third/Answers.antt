use Rattle.std.proofs.Common.{◌+◌, ◌*◌, ◌<◌, ◌∙◌, ℕ, List, [], get_or, length, ap, arith}
use Rattle.std.proofs.lemmas.List.{get_or_default}
use Rattle.std.proofs.lemmas.Nat.{mul-add-lt}
use Rattle.walk_costs.proofs.least.LeastTable.third.Goals as goal

pub index-requires : goal.index-requires
index-requires c =
    let own = c.args.self.now in
    omega (arith, mul-add-lt c.args.p own.thirds c.args.third 60 c.requires.second c.requires.third, c.requires.sums.1.given, own.given.ok.0)

pub returns : goal.returns
returns c =
    let own = c.args.self.now in
    let within : c.args.p * own.thirds + c.args.third < length own.given.items =
    omega (arith, mul-add-lt c.args.p own.thirds c.args.third 60 c.requires.second c.requires.third, c.requires.sums.1.given) in
    let row = c.index.ensures ∙ get_or_default own.given.items (c.args.p * own.thirds + c.args.third) _ [] within in
    record {
      costs = λ m few. ap (λ (r : List ℕ). get_or r m 0) row;
      small = λ m few. omega (arith, ap (λ (r : List ℕ). get_or r m 0) row, c.requires.sums.1.small c.args.p c.args.third m c.requires.second c.requires.third few);
    }
