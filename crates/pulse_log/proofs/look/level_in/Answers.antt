-- The place of the millisecond gives its level.
use Rattle.std.proofs.Common.{◌∙◌, sym}
use Rattle.pulse_log.proofs.PlaceLaws.{level_at-place}
use Rattle.pulse_log.proofs.look.level_in.Goals as goal

pub returns : goal.returns
returns c = c.level_after.ensures ∙ sym (level_at-place c.args.records.now c.args.ms c.count_until.result c.count_until.ensures)
