-- A key names its sequence and its cost.
use Rattle.std.proofs.Common.{arith}
use Rattle.definitions.proofs.KeyLaws.{key_of_injective, sequence_of-key_of, cost_of-key_of, index_bound}
use Rattle.definitions.proofs.laws.keys_differ.Goals as goal

pub returns-clause-differ : goal.returns-clause-differ
returns-clause-differ g = λ c d q r is also apart e. apart (key_of_injective c d q r is also e)

pub returns-clause-sequence : goal.returns-clause-sequence
returns-clause-sequence g = sequence_of-key_of

pub returns-clause-cost : goal.returns-clause-cost
returns-clause-cost g = cost_of-key_of

pub returns-clause-within : goal.returns-clause-within
returns-clause-within g = λ ceiling c q is le. omega (arith, index_bound q is, le)

pub returns-clause-beyond : goal.returns-clause-beyond
returns-clause-beyond g = λ ceiling c q is gt. omega (arith, gt)
