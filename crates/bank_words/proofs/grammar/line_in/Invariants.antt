-- All depends on the commands that are left.
use Rattle.std.proofs.Common.{◌≡◌, drop}
use Rattle.formats.specs.Words.{line_of}
use Rattle.bank_words.specs.Seen.{texts_of}
use Rattle.bank_words.proofs.grammar.line_in.Given as goal

abbrev pub invariant-loop-command : goal.invariant-loop-command
invariant-loop-command l = line_of l.commands (texts_of l.words) ≡ line_of (drop l.command-index l.commands) (texts_of l.words)
