use Rattle.std.proofs.Common.{◌%◌, subst}
use Rattle.minute_parts.specs.Pieces.{IsUncut, local_midnight}
use Rattle.minute_parts.proofs.PieceLaws.{same_in_piece, same_in_plain_piece}
use Rattle.minute_parts.proofs.pieces.piece_end.Goals as goal

pub returns-then-is_plain_day-clause-same : goal.returns-then-is_plain_day-clause-same
returns-then-is_plain_day-clause-same c = λ v le lt.
    same_in_plain_piece c.args.station c.args.t v c.end_in_plain_day.result (c.is_plain_day.ensures c.if-is_plain_day.true) c.end_in_plain_day.ensures.day
    (subst (λ f. IsUncut (c.args.t % 1440) c.end_in_plain_day.result (local_midnight c.args.station f.summer)) c.requires.here c.end_in_plain_day.ensures.piece) le lt

pub returns-clause-same : goal.returns-clause-same
returns-clause-same c = λ v le lt. same_in_piece c.args.station c.args.t v c.end_in_day.result c.end_in_day.ensures.day c.end_in_day.ensures.piece le lt
