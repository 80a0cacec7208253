-- The two least of the leaves' keys are the first two.
use Rattle.std.proofs.Common.{ℕ}
use Rattle.block_visits.specs.Facts.{Facts}
use Rattle.signal_base.specs.declared.limits.TheConstants.{GREATEST_COST}
use Rattle.certificates.proofs.FoundLaws.{walks_show}
use Rattle.certificates.proofs.laws.walks_under_the_second_are_valid.Goals as goal

pub returns : goal.returns
returns c costs window ceiling first second blocks ls century low =
    let facts : (n : ℕ) → Facts costs window n = λ n. c.blocks_share_the_sequences.ensures costs window n century in
    walks_show costs window ceiling (facts GREATEST_COST) (facts ceiling) low first second blocks ls
