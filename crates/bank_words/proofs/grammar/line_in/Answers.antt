use Rattle.std.proofs.Common.{◌∙◌, sym}
use Rattle.formats.specs.declared.words.Command.TheVariants.{Decode}
use Rattle.bank_words.specs.Seen.{texts_of}
use Rattle.bank_words.proofs.CommandLaws.{line_of-here, line_of-next}
use Rattle.bank_words.proofs.grammar.line_in.Goals as goal

pub returns-in-Some : goal.returns-in-Some
returns-in-Some c =
    c.line_behind.ensures
    ∙ sym (c.loop-command.invariant
    ∙ line_of-here c.args.commands.now (texts_of c.args.words.now) c.loop-command.command-index Decode c.loop-command-test.true _ c.in-Some.ensures)

pub loop-command-preserved : goal.loop-command-preserved
loop-command-preserved c =
    c.loop-command.invariant
    ∙ line_of-next c.args.commands.now (texts_of c.args.words.now) c.loop-command.command-index Decode c.loop-command-test.true c.in_default.ensures
