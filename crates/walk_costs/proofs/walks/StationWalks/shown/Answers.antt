use Rattle.std.proofs.Common.{◌≡◌, ◌≤◌, ◌∙◌, ℕ, true, length, subst, sym, ap, arith}
use Rattle.signal_base.specs.declared.station.Station.{Station}
use Rattle.minute_parts.specs.declared.runs.Run.{Run}
use Rattle.minute_parts.specs.Parts.{PartTable}
use Rattle.minute_parts.specs.Runs.{run_at}
use Rattle.walk_costs.specs.declared.shown.Shown.TheVariants.{Always, Never}
use Rattle.walk_costs.specs.Shown.{DiffersElsewhere}
use Rattle.walk_costs.specs.Walks.{ArePriced, IsRegularIn, IsShown, PricedParts}
use Rattle.walk_costs.proofs.ShownLaws.{all_shown, elsewhere, none_shown}
use Rattle.walk_costs.proofs.walks.StationWalks.shown.Goals as goal

pub returns-then-is_told_alike : goal.returns-then-is_told_alike
returns-then-is_told_alike c =
    let own = c.self.inside in
    let w = c.args.self.now in
    let priced = subst (λ (v : PricedParts). ArePriced v.parts v.grid c.self.inside.walks c.self.inside.added) c.self.view_is c.self.invariant.priced in
    let run_is = c.run-at.ensures ∙ ap (λ (v : PartTable). run_at v.runs c.args.run) (c.parts.ensures ∙ ap (λ (v : PricedParts). v.parts) c.self.view_is) in
    let same = subst (λ (r : Run). r.unannounced ≡ r.announced) run_is
    (c.is_told_alike.ensures.0 c.if-is_told_alike.true) in
    subst (λ b. IsShown w b c.args.p c.args.run Never) (sym c.if-not-announced.false)
    (λ (t0 : ℕ) (regular : IsRegularIn w true c.args.p t0 c.args.run). none_shown w own.walks own.added priced c.args.p t0 c.args.run regular same)

pub returns-then-seconds-ge-TWO_MINUTES : goal.returns-then-seconds-ge-TWO_MINUTES
returns-then-seconds-ge-TWO_MINUTES c =
    let own = c.self.inside in
    let w = c.args.self.now in
    let priced = subst (λ (v : PricedParts). ArePriced v.parts v.grid c.self.inside.walks c.self.inside.added) c.self.view_is c.self.invariant.priced in
    let run_is = c.run-at.ensures ∙ ap (λ (v : PartTable). run_at v.runs c.args.run) (c.parts.ensures ∙ ap (λ (v : PricedParts). v.parts) c.self.view_is) in
    let other = subst (λ (r : Run). r.unannounced ≡ r.announced → ⊥) run_is
    (λ same. let alike = c.is_told_alike.ensures.1 same in let other = c.if-is_told_alike.false in absurd cc) in
    let count = c.seconds-seconds.ensures.count ∙ ap (λ (v : PricedParts). length v.grid.rows) c.self.view_is in
    let long : 120 ≤ length c.args.self.now.grid.rows = omega (arith, count, c.if-seconds-ge-TWO_MINUTES.true) in
    subst (λ b. IsShown w b c.args.p c.args.run Always) (sym c.if-not-announced.false)
    (λ (t0 : ℕ) (regular : IsRegularIn w true c.args.p t0 c.args.run). all_shown w own.walks own.added priced c.args.p t0 c.args.run regular long other)

pub returns-then-differs_elsewhere : goal.returns-then-differs_elsewhere
returns-then-differs_elsewhere c =
    let own = c.self.inside in
    let w = c.args.self.now in
    let priced = subst (λ (v : PricedParts). ArePriced v.parts v.grid c.self.inside.walks c.self.inside.added) c.self.view_is c.self.invariant.priced in
    let run_is = c.run-at.ensures ∙ ap (λ (v : PartTable). run_at v.runs c.args.run) (c.parts.ensures ∙ ap (λ (v : PricedParts). v.parts) c.self.view_is) in
    let station_is = c.station.ensures ∙ ap (λ (v : PricedParts). v.grid.station) c.self.view_is in
    let there = subst (λ (s : Station). DiffersElsewhere s (run_at c.args.self.now.parts.runs c.args.run)) station_is
    (subst (DiffersElsewhere c.station.result) run_is (c.differs_elsewhere.ensures c.if-differs_elsewhere.true)) in
    let count = c.seconds-seconds.ensures.count ∙ ap (λ (v : PricedParts). length v.grid.rows) c.self.view_is in
    let long : 60 ≤ length c.args.self.now.grid.rows = omega (arith, count, c.if-seconds-ge-SECONDS_PER_MINUTE.true) in
    subst (λ b. IsShown w b c.args.p c.args.run Always) (sym c.if-not-announced.false)
    (λ (t0 : ℕ) (regular : IsRegularIn w true c.args.p t0 c.args.run). elsewhere w own.walks own.added priced c.args.p t0 c.args.run regular long there)
