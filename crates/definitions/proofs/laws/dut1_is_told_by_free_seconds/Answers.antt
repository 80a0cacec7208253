-- DUT1 is told by free seconds.
use Rattle.definitions.proofs.Dut1Laws.{dut1_sets, dut1_symbols, dut1_differ}
use Rattle.definitions.proofs.laws.dut1_is_told_by_free_seconds.Goals as goal

pub returns-clause-sets : goal.returns-clause-sets
returns-clause-sets c = dut1_sets

pub returns-clause-symbols : goal.returns-clause-symbols
returns-clause-symbols c = dut1_symbols

pub returns-clause-differ : goal.returns-clause-differ
returns-clause-differ c = dut1_differ
