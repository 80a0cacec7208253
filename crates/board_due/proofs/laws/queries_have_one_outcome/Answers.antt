-- The law, from its lemmas.
use Rattle.board_due.proofs.OutcomeLaws.{has_outcome, not_both, one_line, one_list, something_told, told_once}
use Rattle.board_due.proofs.laws.queries_have_one_outcome.Goals as goal

pub returns : goal.returns
returns c = record {
  some = has_outcome;
  one_list = one_list;
  one_line = one_line;
  not_both = not_both;
  told = something_told;
  told_once = told_once;
}
