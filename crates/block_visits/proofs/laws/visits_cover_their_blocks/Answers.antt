-- A visit covers its block, and offers each admitted key once.
use Rattle.block_visits.proofs.Covering.{visit_covers, visit_admitted}
use Rattle.block_visits.proofs.Counting.{visit_once}
use Rattle.block_visits.proofs.laws.visits_cover_their_blocks.Goals as goal

pub returns-clause-covered : goal.returns-clause-covered
returns-clause-covered c costs window ceiling b reads keys floor century =
    visit_covers costs window ceiling (c.blocks_share_the_sequences.ensures costs window ceiling century) b reads keys floor

pub returns-clause-admitted : goal.returns-clause-admitted
returns-clause-admitted c costs window ceiling b reads keys century =
    visit_admitted costs window ceiling (c.blocks_share_the_sequences.ensures costs window ceiling century) b reads keys

pub returns-clause-once : goal.returns-clause-once
returns-clause-once c costs window ceiling b reads keys century =
    visit_once costs window ceiling (c.blocks_share_the_sequences.ensures costs window ceiling century) b reads keys
