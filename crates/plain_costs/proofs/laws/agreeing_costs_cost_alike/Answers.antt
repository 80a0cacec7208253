use Rattle.plain_costs.proofs.AgreementLaws.{dut_same, sequence_same, unions_same}
use Rattle.plain_costs.proofs.laws.agreeing_costs_cost_alike.Goals as goal

pub returns-clause-cost : goal.returns-clause-cost
returns-clause-cost c = sequence_same

pub returns-clause-dut1 : goal.returns-clause-dut1
returns-clause-dut1 c = λ window costs others station q agree heard. dut_same window costs others agree station heard q

pub returns-clause-unions : goal.returns-clause-unions
returns-clause-unions c = unions_same
