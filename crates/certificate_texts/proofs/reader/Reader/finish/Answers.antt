-- At the end of the text.
use Rattle.certificate_texts.proofs.StandLaws.{bad_at_end}
use Rattle.certificate_texts.proofs.reader.Reader.finish.Goals as goal

pub returns-in-Some-clause-bad : goal.returns-in-Some-clause-bad
returns-in-Some-clause-bad c = λ bytes read stands. bad_at_end c.args.self.now c.in-Some.bad bytes read c.in-Some.is stands
