-- The front is the word, or it isn't.
use Rattle.certificate_texts.proofs.HeadLaws.{behind_is, not_behind}
use Rattle.certificate_texts.proofs.head.behind.Goals as goal

pub returns-in-Some-clause-some : goal.returns-in-Some-clause-some
returns-in-Some-clause-some c =
    behind_is c.args.text.now c.args.word.now c.in-Some.rest.now (rw c.as_bytes.ensures.value at c.in-Some.ensures.cases.0) (rw c.as_bytes.ensures.value at c.in-Some.ensures.cases.1)

pub returns-in-None-clause-none : goal.returns-in-None-clause-none
returns-in-None-clause-none c = not_behind c.args.text.now c.args.word.now (rw c.as_bytes.ensures.value at c.in-None.ensures.cases)
