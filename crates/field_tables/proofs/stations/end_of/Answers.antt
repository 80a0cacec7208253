use Rattle.std.proofs.Common.{◌≡◌, ◌+◌, ◌≤◌, min, ap, ◌∙◌, arith}
use Rattle.std.proofs.Math.Nat.{le-min, min-le_left, min-le_right}
use Rattle.minute_parts.specs.Parts.{PartTable}
use Rattle.walk_costs.specs.Walks.{PricedParts}
use Rattle.field_tables.proofs.StationLaws.{last_before, one_more_before}
use Rattle.field_tables.proofs.stations.end_of.Goals as goal

pub loop-station-preserved : goal.loop-station-preserved
loop-station-preserved c =
    let ws = c.args.stations.now in
    let i = c.loop-station.station-index in
    let w = c.station-item.result in
    let end : c.end.result ≡ w.parts.end = c.end.ensures.value ∙ ap (λ (p : PartTable). p.end) c.parts.ensures ∙ ap (λ (v : PricedParts). v.parts.end) c.walks.ensures in
    let left = min-le_left c.loop-station.end c.end.result in
    let right = min-le_right c.loop-station.end c.end.result in
    record {
      each = λ t lt.
          one_more_before ws i w c.loop-station-test.true c.station-item.is t (c.loop-station.invariant.each t (omega (arith, lt, left, c.min-end.ensures)))
          (omega (arith, lt, right, end, c.min-end.ensures));
      before = λ t early all.
          let here = last_before ws i w c.loop-station-test.true c.station-item.is t all in
          let sooner = c.loop-station.invariant.before t early (λ k d lt. all k d (omega (arith, lt))) in
          let least : t + 1 ≤ min c.loop-station.end c.end.result = le-min (omega (arith, sooner)) (omega (arith, here, end)) in
          omega (arith, least, c.min-end.ensures);
      bound = omega (arith, left, c.min-end.ensures, c.loop-station.invariant.bound);
    }

pub returns-clause-end : goal.returns-clause-end
returns-clause-end c = λ t lt k d within. c.loop-station.invariant.each t lt k d (omega (arith, within, c.loop-station-test.false))

pub returns-clause-before : goal.returns-clause-before
returns-clause-before c = λ t early all.
    c.loop-station.invariant.before t early (λ k d lt. all k d (omega (arith, lt, c.loop-station.auto.station-index-end)))
