-- The law, from its lemmas.
use Rattle.due.proofs.LogFileLaws.{all_judged, all_good_once, first_bad_once, all_good_none_bad}
use Rattle.due.proofs.laws.logs_have_one_outcome.Goals as goal

pub returns : goal.returns
returns c = record { some = all_judged; one_list = all_good_once; one_refusal = first_bad_once; not_both = all_good_none_bad }
