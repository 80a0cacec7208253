-- The law, from its lemmas.
use Rattle.due.proofs.WindowLaws.{station_is_heard}
use Rattle.due.proofs.bank_laws.a_station_is_heard_where_a_receiver_listens.Goals as goal

pub returns : goal.returns
returns c = station_is_heard
