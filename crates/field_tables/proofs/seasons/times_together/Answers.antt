use Rattle.std.proofs.Common.{◌+◌, ◌%◌, ◌<◌, ℕ, List, length, ap, ◌∙◌, arith}
use Rattle.std.proofs.lemmas.List.{get_or-replicate, get_or_read, take_all}
use Rattle.walk_costs.specs.Apart.{time_cost}
use Rattle.walk_costs.specs.Walks.{PricedParts}
use Rattle.field_tables.specs.Seasons.{times_together}
use Rattle.field_tables.proofs.SeasonLaws.{times_more}
use Rattle.field_tables.proofs.seasons.times_together.Goals as goal

pub loop-i-init : goal.loop-i-init
loop-i-init c = record { less = λ v lt. omega (arith, get_or-replicate {A = ℕ} 1440 v 0 0 lt) }

pub loop-i-preserved : goal.loop-i-preserved
loop-i-preserved c =
    let ws = c.args.stations.now in
    let ss = c.args.shifts.now.items in
    let i = c.loop-i.i in
    let p = c.args.p in
    let w = c.index-stations-i.result in
    let within : i < length ss = omega arith in
    let shift = get_or_read ss i _ within c.index.ensures 0 in
    record {
      less = λ v lt.
          let u : ℕ = (v + c.index.result.now) % 1440 in
          let more = times_more ws ss p v i w c.loop-i-test.true within c.index-stations-i.is in
          let cost = c.times.ensures u (omega arith) ∙ ap (λ (x : PricedParts). time_cost x p u) c.walks.ensures in
          let there = ap (λ s. time_cost w p ((v + s) % 1440)) shift in
          omega (arith, c.add_times.ensures v lt, c.loop-i.invariant.less v lt, more, cost, there);
    }

pub returns : goal.returns
returns c = λ v lt.
    let all = take_all c.loop-i.i c.args.stations.now c.loop-i-test.false in
    omega (arith, c.loop-i.invariant.less v lt, ap (λ (ws : List PricedParts). times_together ws c.args.shifts.now.items c.args.p v) all)
