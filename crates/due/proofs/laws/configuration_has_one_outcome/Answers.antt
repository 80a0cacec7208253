-- The law, from its lemmas.
use Rattle.due.proofs.ConfigurationLaws.{text_has_outcome, one_configuration, one_refusal, not_both}
use Rattle.due.proofs.laws.configuration_has_one_outcome.Goals as goal

pub returns : goal.returns
returns c = record { some = text_has_outcome; one_configuration = one_configuration; one_refusal = one_refusal; not_both = not_both }
