-- The first line is that of a query, or the text begins with none.
use Rattle.std.proofs.lemmas.List.{take_rest}
use Rattle.board_queries.proofs.LineLaws.{no_query, query_found, query_spelled}
use Rattle.board_queries.proofs.line.query_in.Goals as goal

pub returns-in_err-end-clause-none : goal.returns-in_err-end-clause-none
returns-in_err-end-clause-none c = rw c.from_residual.ensures (no_query c.args.text.now c.in_err-end.ensures)

pub returns-in_err-ms-clause-none : goal.returns-in_err-ms-clause-none
returns-in_err-ms-clause-none c = rw c.from_residual-in_err-ms.ensures (λ begins.
    c.in_err-ms.ensures.none begins.0 (query_spelled c.args.text.now c.in_ok-end.end c.in_ok-end.ensures begins))

pub returns-clause-line : goal.returns-clause-line
returns-clause-line c =
    rw take_rest (query_found c.args.text.now c.in_ok-end.end c.in_ok-end.ensures c.in_ok-ms.ms c.in_ok-ms.ensures.query)
