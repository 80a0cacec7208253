-- The start is given, so that no log need be looked at.
use Rattle.std.proofs.Common.{ℕ, List, Some, refl, sym, subst, arith}
use Rattle.formats.specs.WordExamples.{asked}
use Rattle.board_due.specs.BoardRules.{Answered, Asked, Bad_bank, Bad_count}
use Rattle.board_due.specs.Examples.{order_of_q}
use Rattle.board_due.specs.Queries.{IsToldOf}
use Rattle.board_due.specs.Queries.QueriesTold.{BadLine}
use Rattle.board_due.proofs.ExampleLaws.{early_asks, late_asks, open_line}
use Rattle.board_due.proofs.examples.what_is_refused_behind_the_logs.Goals as goal

pub returns-clause-count : goal.returns-clause-count
returns-clause-count c = λ contents config records loaded.
    Answered (order_of_q (asked (Some 999_999_999_999) 180 0 52_596_000) 60 2 2) late_asks config records loaded (Bad_count (omega arith) refl)

pub returns-clause-queries : goal.returns-clause-queries
returns-clause-queries c = λ contents config records loaded is.
    Answered (order_of_q (asked (Some 0) 180 0 52_596_000) 60 2 2) early_asks config records loaded
    (Asked (omega arith) (BadLine 2) (subst (λ (text : List ℕ). IsToldOf text (BadLine 2)) (sym is) (omega arith, open_line)) refl)

pub returns-clause-logs_first : goal.returns-clause-logs_first
returns-clause-logs_first c = λ contents refusal bad.
    Bad_bank (order_of_q (asked (Some 0) 180 0 52_596_000) 60 2 2) early_asks refusal bad refl
