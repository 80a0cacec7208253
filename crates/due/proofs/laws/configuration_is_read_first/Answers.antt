-- The law, from its lemmas.
use Rattle.due.proofs.FileLaws.{configuration_is_read, nothing_else_as_configuration, no_log_of_a_bad_configuration, refused_reads_nothing, listing_reads_nothing, trial_reads_nothing}
use Rattle.due.proofs.laws.configuration_is_read_first.Goals as goal

pub returns : goal.returns
returns c = record {
  read = configuration_is_read;
  only = nothing_else_as_configuration;
  bad = no_log_of_a_bad_configuration;
  refused = refused_reads_nothing;
  listing = listing_reads_nothing;
  trial = trial_reads_nothing;
}
