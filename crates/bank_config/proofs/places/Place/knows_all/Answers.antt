use Rattle.std.proofs.Common.{◌∙◌, sym}
use Rattle.bank_config.specs.Places.{is_known}
use Rattle.bank_config.proofs.SeenLaws.{keys_in-view}
use Rattle.bank_config.proofs.places.Place.knows_all.Goals as goal

pub returns-in-Some : goal.returns-in-Some
returns-in-Some c = c.knows_keys.ensures ∙ rw (← c.in-Some.ensures) (sym (keys_in-view (is_known c.args.self) c.in-Some.table.now.entries))
