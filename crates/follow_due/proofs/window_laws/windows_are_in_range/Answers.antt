-- The law, from its lemma.
use Rattle.follow_due.proofs.WindowLaws.{all_in_range}
use Rattle.follow_due.proofs.window_laws.windows_are_in_range.Goals as goal

pub returns : goal.returns
returns c = all_in_range
