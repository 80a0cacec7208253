-- A number that is too large is that of no query.
use Rattle.board_queries.proofs.LineLaws.{too_large}
use Rattle.board_queries.proofs.line.query_on.Goals as goal

pub returns-then-ms-ge-QUERY_LIMIT-clause-none : goal.returns-then-ms-ge-QUERY_LIMIT-clause-none
returns-then-ms-ge-QUERY_LIMIT-clause-none c = too_large c.args.line.now c.in_ok-ms.ms c.in_ok-ms.ensures.time c.if-ms-ge-QUERY_LIMIT.true
