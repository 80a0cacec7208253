use Rattle.std.proofs.Common.{◌∙◌}
use Rattle.minute_parts.proofs.PieceLaws.{leap_on}
use Rattle.minute_parts.proofs.pieces.is_leap_day.Goals as goal

pub returns : goal.returns
returns c = c.leap_end.ensures ∙ leap_on c.args.day
