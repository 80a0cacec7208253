use Rattle.std.proofs.Common.{◌∙◌, ap, slice_index, zero-add, arith, rules}
use Rattle.leap_unions.proofs.PieceLaws.{unions_one}
use Rattle.leap_unions.proofs.pieces.Walks.walk.Goals as goal

pub returns : goal.returns
returns c =
    let w = c.args.self.now in
    unions_one w.window.now w.second w.station c.args.first c.sets_from.result (search rules)
    (λ k lt. c.sets_from.ensures k (omega (arith, lt, w.is_window.not_long)) ∙ ap (slice_index c.tape_of-tape.result) (zero-add k) ∙ c.tape_of-tape.ensures k lt)
