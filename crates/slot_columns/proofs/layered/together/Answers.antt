use Rattle.slot_columns.proofs.SetLaws.{or_index}
use Rattle.slot_columns.proofs.layered.together.Goals as goal

pub returns-clause-bound : goal.returns-clause-bound
returns-clause-bound c = or_index c.args.a c.args.b c.requires.one c.requires.other
