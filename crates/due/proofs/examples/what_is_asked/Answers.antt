-- The orders that the words give.
use Rattle.std.proofs.Common.{codes, Some, refl}
use Rattle.std.specs.Fmt.{digits}
use Rattle.formats.specs.Orders.Order.{Decode, Feed}
use Rattle.formats.specs.WordExamples.{asked, asked_usually}
use Rattle.formats.specs.WordValues.{number_of}
use Rattle.due.proofs.ExampleLaws.{decode_asks}
use Rattle.due.proofs.examples.what_is_asked.Goals as goal

pub returns-clause-decode : goal.returns-clause-decode
returns-clause-decode c = decode_asks

pub returns-clause-certificate : goal.returns-clause-certificate
unfolding digits number_of
returns-clause-certificate c = (Decode (codes "k.toml") asked_usually 4 (Some (codes "x.cert")), refl, refl)

pub returns-clause-feed : goal.returns-clause-feed
unfolding digits number_of
returns-clause-feed c = (Feed (codes "k.toml") (asked (Some 7) 60 0 52_596_000) 4, refl, refl)
