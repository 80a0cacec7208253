use Rattle.std.proofs.Common.{ℕ, ◌≡◌, ◌+◌, ◌*◌, ◌/◌, ◌%◌, ap, ◌∙◌, arith}
use Rattle.block_costs.specs.Hours.{hour_at}
use Rattle.block_costs.proofs.local_hours.costs_of.Goals as goal

pub returns : goal.returns
returns c =
    let at = hour_at c.args.walks.now.grid c.args.firsts.now c.args.rests.now in
    record {
      count = omega (arith, c.loop-i.invariant.count, c.loop-i-test.false);
      each = λ p h second hour.
          let j : ℕ = p * 24 + h in
          let row : j / 24 ≡ p = omega (arith, hour) in
          let place : j % 24 ≡ h = omega (arith, hour) in
          c.loop-i.invariant.each j (omega (arith, second, hour, c.loop-i-test.false)) ∙ ap (λ x. at x (j % 24)) row ∙ ap (at p) place;
    }
