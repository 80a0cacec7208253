-- The orders that the words give.
use Rattle.std.proofs.Common.{codes, None, Some, refl}
use Rattle.std.specs.Fmt.{digits}
use Rattle.formats.specs.Orders.Order.{Decode}
use Rattle.formats.specs.WordExamples.{asked, asked_usually}
use Rattle.formats.specs.WordValues.{number_of}
use Rattle.due.proofs.heard_examples.words_of_a_hearing.Goals as goal

pub returns-clause-plain : goal.returns-clause-plain
unfolding digits number_of
returns-clause-plain c = (Decode (codes "k.toml") asked_usually 4 None, refl, refl)

pub returns-clause-window : goal.returns-clause-window
unfolding digits number_of
returns-clause-window c = (Decode (codes "k.toml") (asked (Some 7) 60 0 52_596_000) 4 None, refl, refl)
