-- The receivers so far are those of the tables before this one.
use Rattle.std.proofs.Common.{◌≡◌, ◌+◌, All, drop, length, map}
use Rattle.toml.specs.View.{view}
use Rattle.bank_config.specs.Configuration.{plain_receiver, receiver_in}
use Rattle.bank_config.specs.InRange.{IsReceiverInRange}
use Rattle.bank_config.specs.Values.{each}
use Rattle.bank_config.proofs.EachLaws.{goes_on}
use Rattle.bank_config.proofs.read.receivers_in.Given as goal

abbrev pub invariant-loop-table : goal.invariant-loop-table
invariant-loop-table l = record {
  in_range : All IsReceiverInRange l.receivers.items;
  count : length l.receivers.items ≡ l.table-index;
  numbered : l.number ≡ l.table-index;
  so_far : each (receiver_in l.top) 1 (map view l.tables)
      ≡ goes_on (map plain_receiver l.receivers.items) (each (receiver_in l.top) (l.number + 1) (map view (drop l.table-index l.tables)));
}
