-- The option stands among the pairs that are left, or nowhere.
use Rattle.std.proofs.Common.{◌≡◌, length}
use Rattle.formats.specs.Words.{value_behind}
use Rattle.bank_words.specs.Seen.{texts_of}
use Rattle.bank_words.proofs.grammar.value_behind.Given as goal

abbrev pub invariant-loop-left : goal.invariant-loop-left
invariant-loop-left l = value_behind l.option (texts_of l.pairs) ≡ value_behind l.option (texts_of l.left)

abbrev pub decreases-loop-left : goal.decreases-loop-left
decreases-loop-left l = length l.left
