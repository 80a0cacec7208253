-- One text goes to standard output.
use Rattle.bank.proofs.EndingLaws.{one_written}
use Rattle.check_due.specs.CheckTexts.{owed_text}
use Rattle.checks.proofs.deliver.deliver.Goals as goal

pub returns : goal.returns
returns g c =
    one_written (g.F.Files.view c.args.files.now) (g.F.Files.view c.print_owed.new.files) (owed_text c.args.owed.now) c.print_owed.result c.print_owed.ensures
