-- What the words of the examples ask.
use Rattle.std.proofs.Common.{codes, refl}
use Rattle.std.specs.Fmt.{digits}
use Rattle.formats.specs.WordExamples.{asked_usually, words_in}
use Rattle.formats.specs.WordValues.{number_of}
use Rattle.sweep_due.specs.JudgeRules.{AsksJudge, JudgeOrder}

abbrev pub order_of_k : JudgeOrder
order_of_k = record { config = codes "k.toml"; name = codes "s"; asked = asked_usually }

pub asks : AsksJudge (words_in (codes "judge k.toml s")) order_of_k
unfolding digits number_of
asks = refl
