use Rattle.std.proofs.Common.{◌≡◌, ℕ, ◌+◌, ◌*◌, ◌-◌, ◌%◌, ◌^◌, sym, subst, arith}
use Rattle.minute_parts.specs.Times.{time_at}
use Rattle.minute_parts.specs.Unions.{IsUnionOf}
use Rattle.minute_parts.proofs.TimeLaws.{covered, union_of_most}
use Rattle.minute_parts.proofs.time_unions.time_union.Goals as goal

pub returns : goal.returns
returns c = λ times s table lt.
    let u = c.args.u in
    let most = c.min-most.result in
    let level = c.level_of-level.result in
    let last : ℕ = (u + most - c.width.result) % 1440 in
    let last_is : last ≡ (u + most - 2 ^ level) % 1440 = omega (arith, c.width.ensures) in
    union_of_most times s u c.args.n most _ (omega (arith, c.min-most.ensures))
    (subst (IsUnionOf (time_at times s) u (u + most)) (sym (c.either.ensures.sets s lt))
    (covered times c.args.table.now s lt level u last most c.requires.minute c.level_of-level.ensures.within c.level_of-level.ensures.half last_is
    (table.each (level * 1440 + u) (omega arith)) (table.each (level * 1440 + last) (omega arith))))
