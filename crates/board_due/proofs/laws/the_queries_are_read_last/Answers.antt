-- The law, from its lemmas.
use Rattle.std.proofs.Common.{refl}
use Rattle.board_due.specs.BoardRules.{Reads_bank, Reads_queries}
use Rattle.board_due.proofs.BoardReadLaws.{late_reads_none, queries_file, read_of_bank, refused_reads_none}
use Rattle.board_due.proofs.laws.the_queries_are_read_last.Goals as goal

pub returns : goal.returns
returns c = record {
  refused = refused_reads_none;
  late = λ words contents o config records file asks. late_reads_none words contents o asks config records file;
  read = λ words contents o config records asks loaded early. Reads_queries o asks config records loaded early refl refl;
  only = λ words contents o file asks. queries_file words contents o asks file;
  bank = λ words contents o input file asks other. (read_of_bank words contents o asks input file other, Reads_bank o asks);
}
