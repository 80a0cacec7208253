use Rattle.std.proofs.Common.{◌≡◌, ◌+◌, ◌-◌, slice_index, sym, subst, arith}
use Rattle.minute_parts.specs.Parts.{PartTable}
use Rattle.minute_parts.specs.HourLayers.{AreTimeLayers}
use Rattle.minute_parts.specs.Times.{IsTimeTable, time_at}
use Rattle.minute_parts.specs.Unions.{IsUnionOf}
use Rattle.minute_parts.proofs.UnionLaws.{union_between}
use Rattle.minute_parts.proofs.unions.Unions.time_layers.Goals as goal

pub returns-then-reach-eq0 : goal.returns-then-reach-eq0
returns-then-reach-eq0 c =
    let p : PartTable = c.self.inside.parts in
    let table = subst (IsTimeTable p.times) (sym c.deref.ensures.value) c.self.invariant.1 in
    subst (λ (q : PartTable). AreTimeLayers q.times c.args.u c.args.reach (record { first = c.time_union-first.result; rest = c.time_union-first.result })) c.self.view_is
    (record {
      first = λ s lt. c.time_union-first.ensures p.times s table lt;
      rest = λ m s one few lt. absurd (omega (arith, one, few, c.if-reach-eq0.true));
    })

pub returns-then-steady : goal.returns-then-steady
returns-then-steady c =
    let p : PartTable = c.self.inside.parts in
    let u = c.args.u in
    let reach = c.args.reach in
    let table = subst (IsTimeTable p.times) (sym c.deref.ensures.value) c.self.invariant.1 in
    let outer = subst (IsTimeTable p.times) (sym c.deref-2.ensures.value) c.self.invariant.1 in
    let inner = subst (IsTimeTable p.times) (sym c.deref-3.ensures.value) c.self.invariant.1 in
    let ends : u + reach + (60 + 1 - reach) ≡ u + 61 = omega (arith, c.requires.reach) in
    subst (λ (q : PartTable). AreTimeLayers q.times u reach (record { first = c.time_union-first.result; rest = c.time_union-rest.result })) c.self.view_is
    (record {
      first = λ s lt. c.time_union-first.ensures p.times s table lt;
      rest = λ m s one few lt.
          let f = time_at p.times s in
          let all = c.time_union-rest.ensures p.times s outer lt in
          let common = subst (IsUnionOf f (u + reach) (u + reach + (60 + 1 - reach))) (sym (c.same-steady.ensures.same c.if-steady.true s lt)) (c.time_union-common.ensures p.times s inner lt) in
          union_between f (u + reach) (u + reach + (60 + 1 - reach)) (u + m) (u + m + 60) (u + 1) (u + 1 + (60 - 1 + reach)) (slice_index c.time_union-rest.result s)
          (omega (arith, one)) (omega (arith, few)) (omega (arith, one, ends)) (omega (arith, few)) common all;
    })
