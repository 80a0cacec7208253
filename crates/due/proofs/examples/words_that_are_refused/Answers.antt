-- Each is refused by what its words come to.
use Rattle.std.proofs.Common.{codes, [], refl}
use Rattle.std.specs.Fmt.{digits}
use Rattle.formats.specs.WordExamples.{words_in}
use Rattle.formats.specs.WordValues.{number_of}
use Rattle.formats.specs.declared.option.OptionName.TheVariants.{Minute, Number, Seconds}
use Rattle.formats.specs.declared.words.WordFault.TheVariants.{BadMinute, BadNumber, EmptyRange, Usage}
use Rattle.formats.proofs.WordExampleLaws.{day_begins, day_ends, no_minute}
use Rattle.due.proofs.ExampleLaws.{refused}
use Rattle.due.proofs.examples.words_that_are_refused.Goals as goal

pub returns-clause-none : goal.returns-clause-none
returns-clause-none c = refused [] Usage refl

pub returns-clause-place : goal.returns-clause-place
returns-clause-place c = refused (words_in (codes "decode")) Usage refl

pub returns-clause-dash : goal.returns-clause-dash
returns-clause-dash c = refused (words_in (codes "feed -")) Usage refl

pub returns-clause-beyond : goal.returns-clause-beyond
returns-clause-beyond c = refused (words_in (codes "follow k.toml")) Usage refl

pub returns-clause-check : goal.returns-clause-check
returns-clause-check c = refused (words_in (codes "check k.toml x.cert")) Usage refl

pub returns-clause-certificate : goal.returns-clause-certificate
returns-clause-certificate c = refused (words_in (codes "decode k.toml --certificate -")) Usage refl

pub returns-clause-seconds : goal.returns-clause-seconds
unfolding digits number_of
returns-clause-seconds c = refused (words_in (codes "decode k.toml --seconds 59")) (BadNumber Seconds) refl

pub returns-clause-number : goal.returns-clause-number
unfolding digits number_of
returns-clause-number c = refused (words_in (codes "trial 4294967296")) (BadNumber Number) refl

pub returns-clause-minute : goal.returns-clause-minute
returns-clause-minute c = refused (words_in (codes "encode msf 1")) (BadMinute Minute) (rw no_minute refl)

pub returns-clause-empty : goal.returns-clause-empty
returns-clause-empty c =
    refused (words_in (codes "feed k.toml --from 2024-06-10T23:59Z --to 2024-06-10T00:00Z")) EmptyRange (rw (day_begins, day_ends) refl)
