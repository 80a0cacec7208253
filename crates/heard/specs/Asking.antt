-- What is asked for, as the rules see it.
use Rattle.std.specs.Prelude.{None}
use Rattle.due.specs.Orders.{BankOrder, Report}
use Rattle.heard.specs.declared.ask.Ask.{Ask}

abbrev pub asked_seen : Ask → BankOrder
asked_seen ask = record { config = ask.config.now; asked = ask.asked; wanted = Report None }
