use Rattle.formats.proofs.LineOfLaws.{reach_line, run_line}
use Rattle.formats.proofs.OrderRangeLaws.{reach_order, run_order}
use Rattle.formats.proofs.word_law.words_keep_to_their_commands.Goals as goal

pub returns : goal.returns
returns c = record { run = run_line; reach = reach_line; run_order = run_order; reach_order = reach_order }
