use Rattle.std.proofs.Common.{ℕ, ◌+◌, ◌%◌, ◌<◌, ◌∙◌, bit_or, get_or, length, slice_index, sym, subst, ap, arith}
use Rattle.minute_parts.specs.declared.runs.Run.{Run}
use Rattle.minute_parts.specs.Overlay.{overlay}
use Rattle.minute_parts.specs.Parts.{PartTable, part_where, set_in_run, times_at}
use Rattle.minute_parts.specs.Runs.{run_at}
use Rattle.minute_parts.specs.Times.{IsTimeTable}
use Rattle.minute_parts.specs.Unions.{IsUnionOf}
use Rattle.minute_parts.proofs.SpanLaws.{over_more, over_one}
use Rattle.minute_parts.proofs.unions.Unions.over_run.Goals as goal

pub returns-then-hi-lo-eq1 : goal.returns-then-hi-lo-eq1
returns-then-hi-lo-eq1 c = λ s lt.
    let p : PartTable = c.self.inside.parts in
    let announced = c.args.announced in
    let run = run_at p.runs c.args.i in
    let is : c.args.i < length p.runs = subst (λ (q : PartTable). c.args.i < length q.runs) (sym c.self.view_is) c.requires.run in
    let u : ℕ = (c.args.lo % 1440 + c.run-run.result.now.shift) % 1440 in
    let shift = ap (λ (r : Run). r.shift) c.run-run.ensures in
    let date = ap (λ xs. get_or xs s 0) (c.date_part-date.ensures ∙ ap (part_where announced) c.run-run.ensures) in
    let time = ap (λ xs. get_or xs s 0) c.time_part.ensures in
    let set = c.overlaid.ensures.sets s lt ∙ ap (λ m. overlay m (get_or c.date_part-date.result.now s 0)) time ∙ ap (overlay (get_or (times_at p u) s 0)) date in
    subst (λ (q : PartTable). IsUnionOf (λ t. set_in_run q announced (run_at q.runs c.args.i) t s) c.args.lo c.args.hi (slice_index c.overlaid.result s)) c.self.view_is
    (over_one p c.self.invariant.0 announced c.args.i is s lt c.args.lo c.args.hi u (slice_index c.overlaid.result s)
    (omega (arith, c.if-hi-lo-eq1.true, c.requires.some)) (omega (arith, shift)) set (c.overlaid.ensures.bytes s lt))

pub returns : goal.returns
returns c = λ s lt.
    let p : PartTable = c.self.inside.parts in
    let announced = c.args.announced in
    let run = run_at p.runs c.args.i in
    let is : c.args.i < length p.runs = subst (λ (q : PartTable). c.args.i < length q.runs) (sym c.self.view_is) c.requires.run in
    let u : ℕ = (c.args.lo % 1440 + c.run-run.result.now.shift) % 1440 in
    let shift = ap (λ (r : Run). r.shift) c.run-run.ensures in
    let date = ap (λ xs. get_or xs s 0) (c.date_part-date.ensures ∙ ap (part_where announced) c.run-run.ensures) in
    let told = slice_index c.time_union.result s in
    let table = subst (IsTimeTable p.times) (sym c.deref.ensures.value) c.self.invariant.1 in
    let set = c.either.ensures.sets s lt ∙ ap (bit_or told) date in
    subst (λ (q : PartTable). IsUnionOf (λ t. set_in_run q announced (run_at q.runs c.args.i) t s) c.args.lo c.args.hi (slice_index c.either.result s)) c.self.view_is
    (over_more p c.self.invariant.0 announced c.args.i is s lt c.args.lo c.args.hi u told (slice_index c.either.result s)
    (omega (arith, c.if-hi-lo-eq1.false, c.requires.some)) (omega (arith, shift)) (c.time_union.ensures p.times s table lt) set (c.either.ensures.bytes s lt))
