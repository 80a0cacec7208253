use Rattle.std.proofs.lemmas.List.{get_or-replicate}
use Rattle.slot_columns.proofs.split.alike.Goals as goal

pub returns : goal.returns
returns c = λ b few. get_or-replicate 21 b c.args.cost 0 few
