-- The law, from its lemmas.
use Rattle.due.proofs.WindowLaws.{in_range}
use Rattle.due.proofs.bank_laws.window_is_in_range.Goals as goal

pub returns : goal.returns
returns c = in_range
