-- No symbol costs more than the bound, by weight.
use Rattle.std.proofs.Math.Nat.{mul-le-mul_left}
use Rattle.signal_base.specs.Waveform.{waveform}
use Rattle.definitions.specs.heard.Costs.{table_of, tenths_cost}
use Rattle.definitions.proofs.CapLaws.{counted_capped}
use Rattle.definitions.proofs.caps.a_second_costs_at_most_its_bound.Goals as goal

pub returns : goal.returns
returns c = λ table r station m x most e.
    let own = table_of table r.tuning in
    mul-le-mul_left r.tuning.weight (counted_capped own.second station (λ y. tenths_cost own r.log m (waveform station y)) x most e)
