-- Edges that begin a second.
use Rattle.std.proofs.Common.{refl}
use Rattle.definitions.proofs.examples.receivers.edges_that_begin_a_second.Goals as goal

pub returns-clause-dcf77 : goal.returns-clause-dcf77
returns-clause-dcf77 c = refl

pub returns-clause-msf : goal.returns-clause-msf
returns-clause-msf c = refl

pub returns-clause-wwvb : goal.returns-clause-wwvb
returns-clause-wwvb c = refl

pub returns-clause-jjy : goal.returns-clause-jjy
returns-clause-jjy c = refl
