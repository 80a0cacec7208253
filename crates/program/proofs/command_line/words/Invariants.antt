-- So far the first words were copied.
use Rattle.std.proofs.Common.{map, string_bytes}
use Rattle.program.specs.CommandLine.{AreFirstWords}
use Rattle.program.proofs.command_line.words.Given as goal

abbrev pub invariant-loop-turn : goal.invariant-loop-turn
invariant-loop-turn g l = AreFirstWords (g.C.CommandLine.given l.line) (map string_bytes l.words.items)
