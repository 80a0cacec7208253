-- A run that ended so has run its plan.
use Rattle.std.proofs.Common.{ap, ◌∙◌}
use Rattle.due.specs.Status.{code_of}
use Rattle.bank_words.specs.Seen.{texts_of}
use Rattle.board.proofs.EndLaws.{has_boarded}
use Rattle.board.proofs.board_run.board.Goals as goal

pub returns : goal.returns
returns g c =
    has_boarded (texts_of c.args.words.now) (g.F.Files.view c.args.files.now) (g.F.Files.view c.carry_out.new.files) c.carry_out.result c.code.result
    (c.code.ensures ∙ ap code_of c.status_after.ensures) c.carry_out.ensures.ends c.carry_out.ensures.only
