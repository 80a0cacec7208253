-- The law, from its lemmas.
use Rattle.std.proofs.Common.{refl}
use Rattle.check_due.specs.CheckRules.{Reads_bank, Reads_certificate}
use Rattle.check_due.proofs.CheckReadLaws.{certificate_file, read_of_bank, refused_reads_none}
use Rattle.check_due.proofs.laws.the_certificate_is_read_last.Goals as goal

pub returns : goal.returns
returns c = record {
  refused = refused_reads_none;
  read = λ words contents o config records asks loaded. Reads_certificate o asks config records loaded refl refl;
  only = λ words contents o file asks. certificate_file words contents o asks file;
  bank = λ words contents o input file asks other. (read_of_bank words contents o asks input file other, Reads_bank o asks);
}
