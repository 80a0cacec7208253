-- The law, from its lemmas.
use Rattle.due.proofs.HeardSumLaws.{what_is_heard, what_is_told}
use Rattle.due.proofs.heard_laws.what_a_decode_would_tell.Goals as goal

pub returns : goal.returns
returns c = record { told = what_is_told; heard = what_is_heard }
