-- The two least keys that were offered are those of the first two admitted sequences.
use Rattle.workers.proofs.Closing.{items_drawn, found}
use Rattle.workers.proofs.laws.first_two_are_found.Goals as goal

pub returns-clause-drawn : goal.returns-clause-drawn
returns-clause-drawn c costs window ceiling list v century =
    items_drawn costs window ceiling (c.blocks_share_the_sequences.ensures costs window ceiling century) list v

pub returns-clause-found : goal.returns-clause-found
returns-clause-found c costs window ceiling list v century =
    found costs window ceiling (c.blocks_share_the_sequences.ensures costs window ceiling century) list v
