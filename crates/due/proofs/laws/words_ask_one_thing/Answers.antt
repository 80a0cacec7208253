-- The law, from its lemmas.
use Rattle.due.proofs.WordLaws.{asked_of_bank, bank_order_is_one}
use Rattle.due.proofs.laws.words_ask_one_thing.Goals as goal

pub returns : goal.returns
returns c = record { one = bank_order_is_one; in_range = asked_of_bank }
