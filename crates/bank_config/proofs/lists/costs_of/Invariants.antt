-- The costs so far are those of the entries before this one.
use Rattle.std.proofs.Common.{ℕ, ◌≡◌, ◌≤◌, length, take, drop, map}
use Rattle.std.specs.Prelude.{slice_index}
use Rattle.toml.specs.View.{view}
use Rattle.signal_base.specs.declared.limits.TheConstants.{MOST_COST}
use Rattle.bank_config.specs.declared.limits.TheConstants.{COSTS}
use Rattle.bank_config.specs.Values.{each, number_in}
use Rattle.bank_config.proofs.EachLaws.{goes_on}
use Rattle.bank_config.proofs.lists.costs_of.Given as goal

abbrev pub invariant-loop-i : goal.invariant-loop-i
invariant-loop-i l = record {
  long : length l.costs ≡ COSTS;
  most : (n : ℕ) → slice_index l.costs n ≤ MOST_COST;
  so_far : each (λ _. number_in l.key 0 MOST_COST) 0 (map view l.list)
      ≡ goes_on (take l.i l.costs) (each (λ _. number_in l.key 0 MOST_COST) l.i (map view (drop l.i l.list)));
}
