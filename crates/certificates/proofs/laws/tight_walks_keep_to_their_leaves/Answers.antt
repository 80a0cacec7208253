-- The second-least of some admitted keys isn't below the second of all.
use Rattle.std.proofs.Common.{ℕ}
use Rattle.block_visits.specs.Facts.{Facts}
use Rattle.signal_base.specs.declared.limits.TheConstants.{GREATEST_COST}
use Rattle.certificates.proofs.TightLaws.{keeps_to_leaves}
use Rattle.certificates.proofs.laws.tight_walks_keep_to_their_leaves.Goals as goal

pub returns : goal.returns
returns c costs window ceiling first second front back l century low =
    let facts : (n : ℕ) → Facts costs window n = λ n. c.blocks_share_the_sequences.ensures costs window n century in
    keeps_to_leaves costs window ceiling (facts GREATEST_COST) (facts ceiling) low first second front back l
