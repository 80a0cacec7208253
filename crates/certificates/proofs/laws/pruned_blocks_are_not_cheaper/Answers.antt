-- A block's key is above the limit, and its bound is the cost in it.
use Rattle.std.proofs.Common.{ℕ}
use Rattle.block_visits.specs.Facts.{Facts}
use Rattle.signal_base.specs.declared.limits.TheConstants.{GREATEST_COST}
use Rattle.certificates.proofs.TightLaws.{ceiling_below, first_not_above, second_not_above}
use Rattle.certificates.proofs.ValidLaws.{in_century}
use Rattle.certificates.proofs.laws.pruned_blocks_are_not_cheaper.Goals as goal

pub returns-clause-first : goal.returns-clause-first
returns-clause-first c costs window ceiling d l n key valid has kind bound =
    let facts : (m : ℕ) → Facts costs window m = λ m. c.blocks_share_the_sequences.ensures costs window m (in_century costs window ceiling d valid) in
    first_not_above costs window ceiling (facts GREATEST_COST) (facts ceiling) d valid l n has kind bound key

pub returns-clause-second : goal.returns-clause-second
returns-clause-second c costs window ceiling d l n key valid has kind bound =
    let facts : (m : ℕ) → Facts costs window m = λ m. c.blocks_share_the_sequences.ensures costs window m (in_century costs window ceiling d valid) in
    second_not_above costs window ceiling (facts GREATEST_COST) (facts ceiling) d valid l n has kind bound key

pub returns-clause-ceiling : goal.returns-clause-ceiling
returns-clause-ceiling c costs window ceiling d l n valid has kind bound =
    let facts : (m : ℕ) → Facts costs window m = λ m. c.blocks_share_the_sequences.ensures costs window m (in_century costs window ceiling d valid) in
    ceiling_below costs window ceiling (facts GREATEST_COST) (facts ceiling) d valid l n has kind bound
