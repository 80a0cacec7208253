-- The order that the words give, and the files that are read.
use Rattle.std.proofs.Common.{refl, codes}
use Rattle.std.specs.Fmt.{digits}
use Rattle.formats.specs.WordExamples.{asked_usually, words_in}
use Rattle.formats.specs.WordValues.{number_of}
use Rattle.due.specs.CertificateRules.{AsksCheck, CheckOrder}
use Rattle.due.specs.Loads.{Reads_configuration}
use Rattle.check_due.specs.CheckRules.{Bad_bank, Reads_bank, Reads_certificate}
use Rattle.check_due.proofs.examples.what_is_asked_of_a_check.Goals as goal

abbrev order_of_k : CheckOrder
order_of_k = record { config = codes "k.toml"; certificate = codes "x.cert"; asked = asked_usually }

asks : AsksCheck (words_in (codes "check k.toml x.cert")) order_of_k
unfolding digits number_of
asks = refl

pub returns-clause-usual : goal.returns-clause-usual
returns-clause-usual c = asks

pub returns-clause-own : goal.returns-clause-own
unfolding digits number_of
returns-clause-own c = refl

pub returns-clause-first : goal.returns-clause-first
returns-clause-first c = λ contents. Reads_bank order_of_k asks (Reads_configuration refl refl)

pub returns-clause-last : goal.returns-clause-last
returns-clause-last c = λ contents config records loaded. Reads_certificate order_of_k asks config records loaded refl refl

pub returns-clause-refused : goal.returns-clause-refused
returns-clause-refused c = λ contents refusal bad. Bad_bank order_of_k asks refusal bad refl
