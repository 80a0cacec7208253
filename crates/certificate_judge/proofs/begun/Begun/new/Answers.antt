-- No mark is set.
use Rattle.certificate_judge.proofs.MarkLaws.{none_marked}
use Rattle.certificate_judge.specs.declared.begun.TheConstants.{MOST_ITEMS}
use Rattle.certificate_judge.proofs.begun.Begun.new.Goals as goal

pub returns-clause-none : goal.returns-clause-none
returns-clause-none c = none_marked c.args.items.now MOST_ITEMS c.no_marks.result c.no_marks.ensures c.requires.few
