-- The windows start early enough, and the text has one query.
use Rattle.std.proofs.Common.{ℕ, List, [], ◌∷◌, codes, Some, refl, sym, subst, arith}
use Rattle.std.specs.Fmt.{digits}
use Rattle.std.proofs.lemmas.List.Elements.{All-cons, All-nil}
use Rattle.formats.specs.WordExamples.{asked}
use Rattle.formats.specs.Bytes.{line}
use Rattle.board_due.specs.BoardRules.{Answered, Asked}
use Rattle.board_due.specs.Examples.{order_of_q}
use Rattle.board_due.specs.Queries.{IsQuery, IsTextOf, IsToldOf}
use Rattle.board_due.specs.Queries.QueriesTold.{Read}
use Rattle.board_due.proofs.ExampleLaws.{early_asks}
use Rattle.board_due.proofs.examples.what_is_due_of_queries.Goals as goal

one_query : IsTextOf (0 ∷ []) (line (codes "0"))
unfolding digits
one_query = ((All-cons IsQuery 0 [] (omega arith) (All-nil IsQuery), omega arith), refl)

pub returns-clause-due : goal.returns-clause-due
returns-clause-due c = λ contents config records reports counts loaded is are may.
    Answered (order_of_q (asked (Some 0) 180 0 52_596_000) 60 2 2) early_asks config records loaded
    (Asked (omega arith) (Read (0 ∷ [])) (subst (λ (text : List ℕ). IsToldOf text (Read (0 ∷ []))) (sym is) (omega arith, one_query)) (reports, are, (counts, may, refl)))
