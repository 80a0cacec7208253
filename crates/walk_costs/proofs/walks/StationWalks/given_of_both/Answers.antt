use Rattle.std.proofs.Common.{◌∙◌, ℕ, sym, ap, arith}
use Rattle.signal_base.specs.declared.station.Station.{Station}
use Rattle.minute_parts.specs.Overlay.{is_given_up}
use Rattle.walk_costs.specs.Apart.{told_of_both}
use Rattle.walk_costs.specs.Walks.{PricedParts}
use Rattle.walk_costs.proofs.DateLaws.{none_given}
use Rattle.walk_costs.proofs.walks.StationWalks.given_of_both.Goals as goal

pub returns-then-not-gives_up : goal.returns-then-not-gives_up
returns-then-not-gives_up c = λ m few.
    let w = c.args.self.now in
    let station_is = c.station.ensures ∙ ap (λ (v : PricedParts). v.grid.station) c.self.view_is in
    let keeps = λ (s : ℕ). ap (λ (t : Station). is_given_up t s) (sym station_is) ∙ c.gives_up.ensures c.if-not-gives_up.true s in
    omega (arith, c.no_losses.ensures m few, none_given w.grid c.args.p (told_of_both w.parts c.args.announced c.args.run c.args.next) keeps)
