use Rattle.std.proofs.Common.{◌≡◌, [], false, length, true, vec_len}
use Rattle.walk_costs.specs.Walks.{ArePairsOf}
use Rattle.walk_costs.proofs.kept.add_announced.Given as goal

abbrev pub invariant-loop-i : goal.invariant-loop-i
invariant-loop-i l = record {
  count : vec_len l.places ≡ l.i;
  first : ArePairsOf l.parts l.station false l.all.items [] (length l.parts.runs);
  done : ArePairsOf l.parts l.station true l.all.items l.places.items l.i;
}
