-- The words so far are none.
use Rattle.std.proofs.Common.{◌≡◌, drop}
use Rattle.bank_words.specs.Seen.{texts_of}
use Rattle.due.specs.HeardRuns.{names_left_out}
use Rattle.heard.proofs.words.names_left_out.Given as goal

abbrev pub invariant-loop-i : goal.invariant-loop-i
invariant-loop-i l = names_left_out (texts_of (drop l.i l.words)) ≡ names_left_out (texts_of l.words)
