use Rattle.std.proofs.Common.{◌≡◌, ◌-◌, ℕ, arith, List, map, None, subst, sym}
use Rattle.std.specs.List.{range_with_len}
use Rattle.signal_base.proofs.Made.{made_by}
use Rattle.signal_base.proofs.TableLaws.{priced}
use Rattle.signal_base.specs.Limits.{IsPriced}
use Rattle.signal_base.specs.Table.{difference_table}
use Rattle.signal_base.specs.declared.tuning.CostTable.{CostTable}
use Rattle.signal_base.proofs.tuning.CostTableDefault.default.Goals as goal

-- a table is known by its two lists
same_table : (low high low' high' : List ℕ) → low ≡ low' → high ≡ high' → ◌≡◌ {A = CostTable} (record { low = low; high = high; second = None }) (record { low = low'; high = high'; second = None })
same_table low high low' high' a b = cc

pub returns : goal.returns
unfolding difference_table
returns c =
    let table : ◌≡◌ {A = CostTable} (record { low = c.loop-n.low; high = c.loop-n.high; second = None }) difference_table =
    same_table c.loop-n.low c.loop-n.high (map (λ n. 100 - n) (range_with_len 0 101)) (map (λ n. n) (range_with_len 0 101))
    (made_by (λ n. 100 - n) 101 c.loop-n.low c.loop-n.invariant.lows (λ k h. c.loop-n.invariant.low k (omega arith)))
    (made_by (λ n. n) 101 c.loop-n.high c.loop-n.invariant.highs (λ k h. c.loop-n.invariant.high k (omega arith))) in
    record { table = table; priced = subst IsPriced (sym table) priced }
