use Rattle.std.proofs.Common.{ℕ, sym, subst, slice_index}
use Rattle.definitions.specs.codes.Allowed.{allowed}
use Rattle.minute_parts.specs.Unions.{IsUnionOver}
use Rattle.minute_parts.proofs.UnionLaws.{union_none}
use Rattle.minute_parts.proofs.unions.Unions.over_any.Goals as goal

pub returns-then-lo-hi : goal.returns-then-lo-hi
returns-then-lo-hi c = λ s lt.
    let station = c.args.self.now.station in
    let announced = c.args.announced in
    let lo = c.args.lo in
    subst (λ (h : ℕ). IsUnionOver station announced lo h s (slice_index c.nothing.result s)) c.if-lo-hi.true
    (subst (IsUnionOver station announced lo lo s) (sym (c.nothing.ensures s)) (union_none (λ t. allowed station announced (t, s)) lo))
