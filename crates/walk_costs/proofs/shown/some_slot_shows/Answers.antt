use Rattle.std.proofs.Common.{◌≡◌, ◌≤◌, ◌∙◌, false, sym, arith, below_more}
use Rattle.walk_costs.specs.Shown.{shows_in}
use Rattle.walk_costs.proofs.shown.some_slot_shows.Goals as goal

pub loop-k-preserved : goal.loop-k-preserved
loop-k-preserved c =
    record {
      none = below_more (λ k. c.args.from ≤ k → shows_in c.args.parts.now c.args.run.now c.args.u c.args.p k ≡ false) _ c.loop-k.invariant.none
          (λ le. sym c.slot_shows.ensures ∙ c.if-slot_shows.false);
    }

pub returns-then-slot_shows : goal.returns-then-slot_shows
returns-then-slot_shows c = (λ is. (c.loop-k.k, omega arith, omega arith, sym c.slot_shows.ensures ∙ c.if-slot_shows.true), λ h. cc)

pub returns : goal.returns
returns c = (λ no. cc, λ h. (let none = c.loop-k.invariant.none h.0 (omega (arith, h.2)) h.1 in let some = h.3 in absurd cc))
