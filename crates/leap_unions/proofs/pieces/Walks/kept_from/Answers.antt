use Rattle.std.proofs.Common.{ℕ, Some, subst, arith}
use Rattle.leap_unions.specs.Pieces.{AreUnionsFrom}
use Rattle.leap_unions.proofs.KeptLaws.{kept_unions}
use Rattle.leap_unions.proofs.pieces.Walks.kept_from.Goals as goal

pub returns-clause-unions : goal.returns-clause-unions
returns-clause-unions c =
    let w = c.args.self.now in
    let kept = c.in_ok-kept.kept.now in
    let begins = c.in_ok-kept.ensures.begins in
    subst (λ (lo : ℕ). AreUnionsFrom w.window.now w.second w.station lo kept.hi (Some c.sets_from.result)) begins
    (kept_unions w.window.now w.second w.station kept w.end c.sets_from.result c.requires.second c.in_ok-kept.ensures.kept
    (omega (arith, begins, c.requires.from)) (omega (arith, c.if-hi-kept.false, c.requires.to)) (omega (arith, c.if-self-kept.false, c.row_reach.ensures.value)) w.encoded
    (λ k lt. c.sets_from.ensures k (omega (arith, lt, w.is_window.not_long))))
