-- Behind the queries before it each line is none.
use Rattle.std.proofs.Common.{[], codes, inl, refl, arith}
use Rattle.std.proofs.lemmas.List.Elements.{All-nil}
use Rattle.formats.specs.Bytes.{line}
use Rattle.board_due.specs.Queries.{IsQuery}
use Rattle.board_due.proofs.ExampleLaws.{inside, open_line}
use Rattle.board_due.proofs.QueryLaws.{lone_byte}
use Rattle.board_due.proofs.examples.queries_that_are_refused.Goals as goal

pub returns-clause-inside : goal.returns-clause-inside
returns-clause-inside c = inside

pub returns-clause-open : goal.returns-clause-open
returns-clause-open c = open_line

pub returns-clause-empty : goal.returns-clause-empty
returns-clause-empty c = record {
  queries = [];
  rest = line (codes "");
  good = (All-nil IsQuery, omega arith);
  read = refl;
  more = omega arith;
  bad = inl (lone_byte 10);
  is_next = refl;
}
