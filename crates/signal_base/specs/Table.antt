-- The cost table that counts the milliseconds that differ from the symbol.
use Rattle.std.specs.Prelude.{◌-◌, map, None}
use Rattle.std.specs.List.{range_with_len}
use Rattle.signal_base.specs.declared.tuning.CostTable.{CostTable}

-- a tenth with n low milliseconds, 0 to 100, costs 100 - n where the symbol is low there, and n where it is high; a second
-- costs the sum of its tenths
unfoldable pub difference_table : CostTable
difference_table = record { low = map (λ n. 100 - n) (range_with_len 0 101); high = map (λ n. n) (range_with_len 0 101); second = None }
