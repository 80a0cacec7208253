use Rattle.std.proofs.Common.{◌≡◌, ℕ, ◌+◌, ◌-◌, ◌%◌, bit_or, get_or, refl, subst, arith}
use Rattle.minute_parts.specs.Parts.{part_where}
use Rattle.minute_parts.specs.Runs.{run_at}
use Rattle.minute_parts.specs.Times.{time_at}
use Rattle.minute_parts.specs.Unions.{IsUnionOf}
use Rattle.minute_parts.proofs.SpanLaws.{carried_in_run, over_more}
use Rattle.minute_parts.proofs.TimeLaws.{same_time}
use Rattle.minute_parts.proofs.UnionLaws.{union_moved}
use Rattle.minute_parts.proofs.laws.hours_tell_time_and_date.Goals as goal

pub returns : goal.returns
returns c = λ p announced i lo m u s time table is begun ends short within minute union byte.
    let run = run_at p.runs i in
    let from : ℕ = lo + m in
    let to : ℕ = lo + m + 60 in
    let first : ℕ = (from + run.shift) % 1440 in
    let set : ℕ = bit_or time (get_or (part_where announced run) s 0) in
    let moved = union_moved (time_at p.times s) (time_at p.times s) (u + m) first 60 time
    (λ j in_range. same_time p.times s (u + m + j) (first + j) (omega (arith, minute))) union in
    let long : 60 ≡ to - from = omega arith in
    carried_in_run p table announced i from to s set is begun ends short within
    (over_more p table announced i is s within from to first time set (omega arith) refl (subst (λ n. IsUnionOf (time_at p.times s) first (first + n) time) long moved) refl byte)
