use Rattle.std.proofs.Common.{◌∙◌, false, subst, ap}
use Rattle.signal_base.specs.declared.station.Station.{Station}
use Rattle.minute_parts.specs.Parts.{PartTable}
use Rattle.minute_parts.specs.Layers.{AreLayers}
use Rattle.block_costs.proofs.KeptLaws.{gathered_more}
use Rattle.block_costs.proofs.kept.gather.Goals as goal

pub returns : goal.returns
returns c =
    let w = c.args.walks.now in
    let old = c.args.gathered.now in
    let layers = c.in-Some.layers in
    let station_is = ap (λ (v : PartTable). v.station) c.unions-unions.ensures.unions ∙ c.unions-unions.ensures.station in
    let two = subst (λ (s : Station). AreLayers s false c.args.lo c.args.hi c.later_minutes-reach.result layers) station_is c.in-Some.ensures.layers in
    let kept = subst (λ m. AreLayers w.grid.station false c.args.lo c.args.hi m layers) c.later_minutes-reach.ensures.count two in
    gathered_more w old.ranges.items c.push.new.self.items old.firsts.items old.rests.items c.push-2.new.self.items c.push-3.new.self.items
    (record { lo = c.args.lo; hi = c.args.hi }) layers.first layers.rest c.requires kept c.in_ok-push.ensures.items c.in_ok-push-2.ensures.items c.in_ok-push-3.ensures.items
