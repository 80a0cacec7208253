-- Line by line: what is due, and which items were begun.
use Rattle.certificates.proofs.GoodLaws.{good_are_walks, items_each_once, walks_are_good}
use Rattle.certificates.proofs.laws.good_lines_are_walks.Goals as goal

pub returns-clause-walks : goal.returns-clause-walks
returns-clause-walks c costs window limit ls = good_are_walks costs window limit ls

pub returns-clause-good : goal.returns-clause-good
returns-clause-good c costs window limit blocks ls = walks_are_good costs window limit blocks ls

pub returns-clause-own_order : goal.returns-clause-own_order
returns-clause-own_order c costs window century = items_each_once costs window 0 (c.blocks_share_the_sequences.ensures costs window 0 century)
