-- The cost is that of the sequence, and the sequence is legal or not.
use Rattle.field_tables.specs.Sums.{costs_by}
use Rattle.field_tables.proofs.LegalLaws.{is_bound, is_small}
use Rattle.field_tables.proofs.MinuteLaws.{minutes_of}
use Rattle.field_tables.proofs.sums.WindowSums.leap_minute_bound.Goals as goal

pub leap_minute_cost-requires-clause-block : goal.leap_minute_cost-requires-clause-block
leap_minute_cost-requires-clause-block c = minutes_of c.args.self.now.window c.args.minute.now c.requires.block

pub returns-clause-bound : goal.returns-clause-bound
returns-clause-bound c =
    let sums = c.args.self.now in
    rw c.bound_if.ensures (is_bound c.in_ok-cost.cost (costs_by sums) sums.window c.args.minute.now c.in_ok-legal.legal c.in_ok-legal.ensures (λ _. c.in_ok-cost.ensures.cost))

pub returns-clause-small : goal.returns-clause-small
returns-clause-small c = rw c.bound_if.ensures (is_small c.in_ok-cost.cost c.in_ok-legal.legal c.in_ok-cost.ensures.small)
