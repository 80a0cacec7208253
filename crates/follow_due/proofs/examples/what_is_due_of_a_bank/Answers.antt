-- The windows start early enough.
use Rattle.std.proofs.Common.{Some, refl, arith}
use Rattle.formats.specs.WordExamples.{asked}
use Rattle.follow_due.specs.Examples.{order_of_k}
use Rattle.follow_due.specs.FollowRules.{Answered, Reported}
use Rattle.follow_due.proofs.ExampleLaws.{early_asks}
use Rattle.follow_due.proofs.examples.what_is_due_of_a_bank.Goals as goal

pub returns : goal.returns
returns c = λ contents config records reports loaded are.
    Answered (order_of_k (asked (Some 0) 120 0 52_596_000) 60 2) early_asks config records loaded (Reported (omega arith) reports are refl)
