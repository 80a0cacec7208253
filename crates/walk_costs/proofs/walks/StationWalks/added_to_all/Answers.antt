use Rattle.std.proofs.Common.{◌≡◌, ◌/◌, refl, inl, inr, subst, arith}
use Rattle.std.proofs.lemmas.Bool.{eq-eqb}
use Rattle.walk_costs.specs.Walks.{ArePriced, PricedParts, last_minute}
use Rattle.walk_costs.proofs.walks.StationWalks.added_to_all.Goals as goal

pub returns-then-last-lo : goal.returns-then-last-lo
returns-then-last-lo c = λ t0 ge lt. record { one_day = λ e. inl refl; two_days = λ e. refl }

pub returns : goal.returns
returns c = λ t0 ge lt.
    let w = c.args.self.now in
    let own = c.self.inside in
    let priced = subst (λ (v : PricedParts). ArePriced v.parts v.grid own.walks own.added) c.self.view_is c.self.invariant.priced in
    record {
      one_day = λ e. inr (priced.added c.args.p c.requires.second);
      two_days = λ e.
          let same : last_minute w c.args.p t0 / 1440 ≡ t0 / 1440 = omega (arith, c.if-last-lo.false, ge, lt, c.later_minutes.ensures.count) in
          let both = eq-eqb (last_minute w c.args.p t0 / 1440) (t0 / 1440) same in absurd cc;
    }
