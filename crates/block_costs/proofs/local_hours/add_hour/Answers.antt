use Rattle.std.proofs.Common.{◌≡◌, ◌+◌, ◌*◌, ℕ, true, [], ◌∷◌, ◌++◌, List, length, sym, ap, subst, ◌∙◌, arith}
use Rattle.signal_base.specs.declared.station.Station.{Station}
use Rattle.symbol_cost.specs.Grid.{Grid}
use Rattle.minute_parts.specs.HourLayers.{AreTimeLayers}
use Rattle.minute_parts.specs.Parts.{PartTable}
use Rattle.minute_parts.specs.Overlay.{is_given_up}
use Rattle.minute_parts.specs.Walks.{later_minutes}
use Rattle.block_costs.specs.Hours.{AreHourLayers, IsHourLayer}
use Rattle.block_costs.proofs.HourLaws.{hours_more}
use Rattle.block_costs.proofs.local_hours.add_hour.Goals as goal

pub returns : goal.returns
returns c =
    let w = c.args.walks.now in
    let firsts = c.args.firsts.now.items in
    let rests = c.args.rests.now.items in
    let call = c.args.call.now in
    let reach = later_minutes (length w.grid.rows) 59 in
    let minute : c.saturating_add-u.result ≡ 60 * length firsts + c.args.begin = omega (arith, c.saturating_add-u.ensures, c.saturating_mul.ensures, c.len.ensures, c.if-saturating_add.false, c.saturating_add.ensures) in
    let told = subst (λ (p : PartTable). AreTimeLayers p.times c.saturating_add-u.result c.later_minutes-reach.result c.in-Some.layers) c.unions.ensures.unions c.in-Some.ensures in
    let here = subst (λ u. AreTimeLayers w.parts.times u reach c.in-Some.layers) minute (subst (λ r. AreTimeLayers w.parts.times c.saturating_add-u.result r c.in-Some.layers) c.later_minutes-reach.ensures.count told) in
    let station = c.station-station.ensures ∙ ap (λ (g : Grid). g.station) c.columns.ensures.columns in
    let given = λ (s : ℕ) (is : is_given_up w.grid.station s ≡ true). ap (λ (st : Station). is_given_up st s) station ∙ is in
    let layer : IsHourLayer w c.args.begin (length firsts) call c.in-Some.layers.first c.in-Some.layers.rest = record { layers = here; at_call = λ s is. (c.calls_alike.ensures c.if-not-calls_alike.false s (given s is), c.calls_alike-else-not-calls_alike.ensures c.if-not-calls_alike-2.false s (given s is)) } in
    subst (λ (xs : List (List ℕ)). AreHourLayers w c.args.begin call xs c.push-2.new.self.items) (sym c.in_ok-push.ensures.items)
    (subst (λ (ys : List (List ℕ)). AreHourLayers w c.args.begin call (firsts ++ c.in-Some.layers.first ∷ []) ys) (sym c.in_ok-push-2.ensures.items)
    (hours_more w c.args.begin call firsts rests c.in-Some.layers.first c.in-Some.layers.rest c.requires layer))
