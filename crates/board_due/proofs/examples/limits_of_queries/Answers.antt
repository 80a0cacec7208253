-- Each is at a limit, or one beyond it.
use Rattle.std.proofs.Common.{codes, inr, refl, arith}
use Rattle.formats.specs.Bytes.{line}
use Rattle.board_due.proofs.examples.limits_of_queries.Goals as goal

pub returns-clause-last : goal.returns-clause-last
returns-clause-last c = omega arith

pub returns-clause-beyond : goal.returns-clause-beyond
returns-clause-beyond c = λ is. omega (arith, is)

pub returns-clause-most : goal.returns-clause-most
returns-clause-most c queries all many = ((all, omega (arith, many)), refl)

pub returns-clause-one_more : goal.returns-clause-one_more
returns-clause-one_more c queries all many = record {
  queries = queries;
  rest = line (codes "0");
  good = (all, omega (arith, many));
  read = refl;
  more = omega arith;
  bad = inr many;
  is_next = omega (arith, many);
}

pub returns-clause-largest : goal.returns-clause-largest
returns-clause-largest c text long = λ over. omega (arith, long, over)

pub returns-clause-too_large : goal.returns-clause-too_large
returns-clause-too_large c text long = omega (arith, long)
