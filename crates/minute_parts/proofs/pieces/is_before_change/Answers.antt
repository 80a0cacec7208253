use Rattle.std.proofs.Common.{◌∙◌}
use Rattle.minute_parts.proofs.PieceLaws.{change_after}
use Rattle.minute_parts.proofs.pieces.is_before_change.Goals as goal

pub returns : goal.returns
returns c = c.eu_change_within.ensures ∙ change_after c.args.day
