-- The start is given, so that no log need be looked at.
use Rattle.std.proofs.Common.{Some, refl, arith}
use Rattle.formats.specs.WordExamples.{asked}
use Rattle.follow_due.specs.Examples.{order_of_k}
use Rattle.follow_due.specs.FollowRules.{Answered, Bad_bank, Bad_count}
use Rattle.follow_due.proofs.ExampleLaws.{late_asks, late_too}
use Rattle.follow_due.proofs.examples.counts_that_are_refused.Goals as goal

pub returns-clause-due : goal.returns-clause-due
returns-clause-due c = λ contents config records loaded.
    Answered (order_of_k (asked (Some 999_999_999_999) 120 0 52_596_000) 60 2) late_asks config records loaded (Bad_count (omega arith) refl)

pub returns-clause-logs_first : goal.returns-clause-logs_first
returns-clause-logs_first c = λ contents refusal bad.
    Bad_bank (order_of_k (asked (Some 999_999_999_999) 180 0 52_596_000) 60 2) late_too refusal bad refl
