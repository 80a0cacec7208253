-- All depends on the pairs that are left.
use Rattle.std.proofs.Common.{◌≡◌, length}
use Rattle.formats.specs.Words.{are_pairs, form_of}
use Rattle.bank_words.specs.Seen.{texts_of}
use Rattle.bank_words.proofs.grammar.are_pairs.Given as goal

abbrev pub invariant-loop-left : goal.invariant-loop-left
invariant-loop-left l = are_pairs (form_of l.command).options (texts_of l.pairs) ≡ are_pairs (form_of l.command).options (texts_of l.left)

abbrev pub decreases-loop-left : goal.decreases-loop-left
decreases-loop-left l = length l.left
