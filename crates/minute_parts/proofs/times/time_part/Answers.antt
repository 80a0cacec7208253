use Rattle.std.proofs.Common.{◌≡◌, ◌<◌, ◌∙◌, ℕ, if◌then◌else◌, ap, subst, sym, arith}
use Rattle.signal_base.proofs.Made.{filled_more, made_by}
use Rattle.minute_parts.specs.Dates.{time_part, time_set}
use Rattle.minute_parts.specs.Overlay.{tells_time}
use Rattle.minute_parts.proofs.times.time_part.Goals as goal

pub loop-s-preserved : goal.loop-s-preserved
loop-s-preserved c =
    let station = c.args.station in
    let u = c.args.u in
    let s = c.loop-s.s in
    let lt : s < 60 = omega arith in
    let more = filled_more (time_set station u) 60 c.loop-s.part s _ lt c.loop-s.invariant.long c.loop-s.invariant.done
    (c.time_set.ensures ∙ ap (λ (set : ℕ). if tells_time station u s then set else 0) (c.sets_by-sets.ensures s lt)) in
    record { long = more.0; done = more.1 }

pub returns : goal.returns
unfolding time_part
returns c =
    let all : c.loop-s.s ≡ 60 = omega arith in
    made_by (time_set c.args.station c.args.u) 60 c.loop-s.part c.loop-s.invariant.long
    (λ k lt. c.loop-s.invariant.done k (subst (λ (n : ℕ). k < n) (sym all) lt))
