-- Which value of DUT1 the seconds of a station tell, by its number.
use Rattle.std.specs.Prelude.{ℕ, ◌≡◌, ◌<◌, Option, Some, is_some}
use Rattle.signal_base.specs.declared.station.Station.{Station}
use Rattle.definitions.specs.declared.sequence.Sequence.{Sequence}
use Rattle.formats.specs.Heard.{tells_one_value, told_value}
use Rattle.plain_costs.specs.Tenths.{tenths_at, value_count}

-- this is the number of the value that they tell, and there is none where they tell no one value
pub record IsTold (station : Station) (costs : ℕ → ℕ → ℕ) (n : ℕ) (q : Sequence) (o : Option ℕ) : Type 0 where
  pub tells : tells_one_value station n q ≡ is_some o
  pub known : (i : ℕ) → o ≡ Some i → i < value_count station
  pub value : (i : ℕ) → o ≡ Some i → told_value station costs n q ≡ Some (tenths_at station i)
