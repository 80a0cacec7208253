-- The lines of a valid certificate are visits of all items, so nothing is left out.
use Rattle.block_visits.specs.Facts.{Facts}
use Rattle.std.proofs.Common.{ℕ}
use Rattle.signal_base.specs.declared.limits.TheConstants.{GREATEST_COST}
use Rattle.certificates.proofs.FoundLaws.{shown_are_first}
use Rattle.certificates.proofs.ValidLaws.{in_century, is_low}
use Rattle.certificates.proofs.laws.valid_certificates_name_the_first_two.Goals as goal

pub returns-clause-keys : goal.returns-clause-keys
returns-clause-keys c costs window ceiling d valid =
    let facts : (n : ℕ) → Facts costs window n = λ n. c.blocks_share_the_sequences.ensures costs window n (in_century costs window ceiling d valid) in
    shown_are_first costs window ceiling (facts GREATEST_COST) (facts ceiling) (is_low costs window ceiling d valid) d.head.first d.head.second _ valid.shows

pub returns-clause-answer : goal.returns-clause-answer
returns-clause-answer c costs window ceiling d valid =
    c.the_least_two_are_the_answer.ensures window costs ceiling d.head.first d.head.second (in_century costs window ceiling d valid) (returns-clause-keys c costs window ceiling d valid)
