-- The law, from its lemmas.
use Rattle.due.proofs.HeardDueLaws.{no_failure_is_shown, one_heard, some_heard}
use Rattle.due.proofs.heard_laws.one_hearing_is_due.Goals as goal

pub returns : goal.returns
returns c = record {
  some = λ words contents. some_heard contents words;
  one = λ words contents. one_heard contents words;
  failed = λ due. (no_failure_is_shown due).0;
  memory = λ due. (no_failure_is_shown due).1;
}
