use Rattle.formats.proofs.SymbolLaws.{allowed_law, dut1_law, not_scored_law, scored_law}
use Rattle.formats.proofs.heard_law.symbols_are_those_of_the_sequence.Goals as goal

pub returns : goal.returns
returns c = record { allowed = allowed_law; scored = scored_law; not_scored = not_scored_law; dut1 = dut1_law }
