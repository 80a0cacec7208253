use Rattle.std.proofs.Common.{◌+◌, arith}
use Rattle.minute_parts.proofs.LayerLaws.{HasUnions, joined, layers, same_if_steady}
use Rattle.minute_parts.proofs.unions.Unions.layers.Goals as goal

pub returns-then-steady-clause-layers : goal.returns-then-steady-clause-layers
returns-then-steady-clause-layers c =
    let station = c.args.self.now.station in
    let announced = c.args.announced in
    let lo = c.args.lo in
    let hi = c.args.hi in
    let reach = c.args.reach in
    let some = c.if-reach-eq0.false in
    let wide = c.if-hi-lo.false in
    let common : HasUnions station announced (lo + reach) (hi + 1) c.either-common.result =
    joined station announced (lo + reach) hi hi (hi + 1) c.over_any-most.result c.over-last.result c.either-common.result
    (omega (arith, wide)) (omega arith) (omega arith) c.over_any-most.ensures c.over-last.ensures c.either-common.ensures.sets in
    let begun : HasUnions station announced (lo + 1) (hi + 1) c.either-begun.result =
    joined station announced (lo + 1) (lo + reach + 1) (lo + reach) (hi + 1) c.over-early.result c.either-common.result c.either-begun.result
    (omega (arith, some)) (omega arith) (omega (arith, wide)) c.over-early.ensures common c.either-begun.ensures.sets in
    let rest : HasUnions station announced (lo + 1) (hi + reach) c.either-rest.result =
    joined station announced (lo + 1) (hi + 1) hi (hi + reach) c.either-begun.result c.over-late.result c.either-rest.result
    (omega (arith, c.requires.some)) (omega arith) (omega (arith, some)) begun c.over-late.ensures c.either-rest.ensures.sets in
    let first : HasUnions station announced lo hi c.either-first.result =
    joined station announced lo (lo + reach) (lo + reach) hi c.over-front.result c.over_any-most.result c.either-first.result
    (omega arith) (omega arith) (omega (arith, wide)) c.over-front.ensures c.over_any-most.ensures c.either-first.ensures.sets in
    layers station announced lo hi reach c.either-first.result c.either-rest.result c.either-common.result rest common first
    (c.same-steady.ensures.same c.if-steady.true)

pub returns-clause-steady : goal.returns-clause-steady
returns-clause-steady c = λ steady.
    let station = c.args.self.now.station in
    let announced = c.args.announced in
    let lo = c.args.lo in
    let hi = c.args.hi in
    let reach = c.args.reach in
    let some = c.if-reach-eq0.false in
    let wide = c.if-hi-lo.false in
    let common : HasUnions station announced (lo + reach) (hi + 1) c.either-common.result =
    joined station announced (lo + reach) hi hi (hi + 1) c.over_any-most.result c.over-last.result c.either-common.result
    (omega (arith, wide)) (omega arith) (omega arith) c.over_any-most.ensures c.over-last.ensures c.either-common.ensures.sets in
    let begun : HasUnions station announced (lo + 1) (hi + 1) c.either-begun.result =
    joined station announced (lo + 1) (lo + reach + 1) (lo + reach) (hi + 1) c.over-early.result c.either-common.result c.either-begun.result
    (omega (arith, some)) (omega arith) (omega (arith, wide)) c.over-early.ensures common c.either-begun.ensures.sets in
    let rest : HasUnions station announced (lo + 1) (hi + reach) c.either-rest.result =
    joined station announced (lo + 1) (hi + 1) hi (hi + reach) c.either-begun.result c.over-late.result c.either-rest.result
    (omega (arith, c.requires.some)) (omega arith) (omega (arith, some)) begun c.over-late.ensures c.either-rest.ensures.sets in
    absurd (c.same-steady.ensures.differ c.if-steady.false
    (same_if_steady station announced lo hi reach c.either-first.result c.either-rest.result c.either-common.result rest common steady))
