use Rattle.std.proofs.Common.{◌∙◌}
use Rattle.minute_parts.proofs.PieceLaws.{change_on}
use Rattle.minute_parts.proofs.pieces.is_change_day.Goals as goal

pub returns : goal.returns
returns c = c.eu_change_within.ensures ∙ change_on c.args.day
