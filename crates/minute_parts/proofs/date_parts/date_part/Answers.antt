use Rattle.std.proofs.Common.{◌≡◌, ◌<◌, ◌∙◌, ℕ, if◌then◌else◌, ap, subst, arith}
use Rattle.minute_parts.specs.Filling.{IsFilled}
use Rattle.minute_parts.specs.Overlay.{is_time_second}
use Rattle.minute_parts.proofs.FillLaws.{filled_more, finished}
use Rattle.minute_parts.proofs.date_parts.date_part.Goals as goal

pub loop-s-preserved : goal.loop-s-preserved
loop-s-preserved c =
    let s = c.loop-s.s in
    let lt : s < 60 = omega arith in
    filled_more c.args.station c.args.date.now c.loop-s.part s _ lt c.loop-s.invariant
    (c.date_set.ensures ∙ ap (λ (set : ℕ). if is_time_second c.args.station s then 0 else set) (c.sets_by-sets.ensures s lt))

pub returns : goal.returns
returns c =
    let all : c.loop-s.s ≡ 60 = omega arith in
    finished c.args.station c.args.date.now c.loop-s.part (subst (IsFilled c.args.station c.args.date.now c.loop-s.part) all c.loop-s.invariant)
