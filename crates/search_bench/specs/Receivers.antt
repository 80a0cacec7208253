-- How many receivers were gathered.
use Rattle.std.specs.Prelude.{ℕ, length}
use Rattle.search_bench.specs.declared.receivers.Receivers.{Receivers}

abbrev pub count_of : Receivers → ℕ
count_of r = length r.stations.items
