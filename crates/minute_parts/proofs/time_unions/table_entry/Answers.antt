use Rattle.std.proofs.Common.{◌≡◌, ℕ, ◌+◌, ◌*◌, ◌-◌, ◌/◌, ◌%◌, ◌^◌, ◌∙◌, [], slice_index, get_or, sym, subst, arith, ap}
use Rattle.minute_parts.specs.Times.{time_at}
use Rattle.minute_parts.specs.Unions.{IsUnionOf}
use Rattle.minute_parts.proofs.TimeLaws.{doubled, lowest}
use Rattle.minute_parts.proofs.time_unions.table_entry.Goals as goal

pub returns-then-n-lt-DAY_MINUTES : goal.returns-then-n-lt-DAY_MINUTES
returns-then-n-lt-DAY_MINUTES c = λ s lt.
    let n = c.args.n in
    let times = c.args.parts.now.times in
    let minute : n ≡ n % 1440 = omega (arith, c.if-n-lt-DAY_MINUTES.true) in
    lowest times times s lt n (slice_index c.copied.result s) c.if-n-lt-DAY_MINUTES.true
    (c.copied.ensures.sets s lt ∙ ap (λ xs. get_or xs s 0) (c.time_part.ensures ∙ ap (λ m. get_or times m []) minute)) (c.copied.ensures.bytes s lt)

pub returns : goal.returns
returns c = λ s lt.
    let n = c.args.n in
    let times = c.args.parts.now.times in
    let u : ℕ = n % 1440 in
    let level : ℕ = n / 1440 - 1 in
    let next : ℕ = (u + c.width.result) % 1440 in
    let next_is : next ≡ (u + 2 ^ level) % 1440 = omega (arith, c.width.ensures) in
    let height : level + 1 ≡ n / 1440 = omega (arith, c.if-n-lt-DAY_MINUTES.false) in
    subst (λ h. IsUnionOf (time_at times s) u (u + 2 ^ h) (slice_index c.either.result s)) height
    (subst (IsUnionOf (time_at times s) u (u + 2 ^ (level + 1))) (sym (c.either.ensures.sets s lt))
    (doubled times c.args.table.now s lt level u next (omega arith) next_is
    (c.requires.each (level * 1440 + u) (omega (arith, height))) (c.requires.each (level * 1440 + next) (omega (arith, height)))))
