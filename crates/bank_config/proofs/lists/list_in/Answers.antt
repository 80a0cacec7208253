use Rattle.std.proofs.Common.{Ok, ap}
use Rattle.bank_config.proofs.SeenLaws.{entries_of-view}
use Rattle.bank_config.proofs.lists.list_in.Goals as goal

pub returns-in-Some : goal.returns-in-Some
returns-in-Some c = rw (← c.in-Some.ensures, c.as_slice.ensures.value) (ap Ok (entries_of-view c.in-Some.list.now.items))
