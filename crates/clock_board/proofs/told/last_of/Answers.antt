-- The entry that was looked at tells, where it has the millisecond; else the walk goes one back.
use Rattle.std.proofs.Common.{◌≡◌, ◌+◌, ◌-◌, ◌<◌, ◌≤◌, None, length, subst, sym, arith}
use mathlib.Core.Option.{some}
use lib.ListN.{get_elem?}
use Rattle.atomic_table.proofs.Lists.{at_index}
use Rattle.board_entries.specs.Plain.{plain}
use Rattle.clock_board.proofs.Listing.{NoneFrom, found_at, found_last}
use Rattle.clock_board.proofs.told.last_of.Goals as goal

pub returns-in-Some-clause-list : goal.returns-in-Some-clause-list
returns-in-Some-clause-list c =
    let ms = c.args.ms in
    let list = c.args.entries.now in
    let n = c.loop-n.n - 1 in
    let near : length list - 64 ≤ n = omega (arith, c.loop-n-test.true) in
    let lt : n < length list = omega (arith, c.loop-n-test.true, c.loop-n.auto.n) in
    let next : c.loop-n.n ≡ n + 1 = omega (arith, c.loop-n-test.true) in
    let at : get_elem? list n ≡ some c.entry_at.result = at_index list n c.entry_at.result lt c.entry_at.ensures in
    sym (found_last ms list n c.entry_at.result (plain c.in-Some.entry) near at c.in-Some.ensures.laid (subst (NoneFrom ms list) next c.loop-n.invariant.none))

pub loop-n-preserved : goal.loop-n-preserved
loop-n-preserved c =
    let ms = c.args.ms in
    let list = c.args.entries.now in
    let n = c.loop-n.n - 1 in
    let near : length list - 64 ≤ n = omega (arith, c.loop-n-test.true) in
    let lt : n < length list = omega (arith, c.loop-n-test.true, c.loop-n.auto.n) in
    let next : c.loop-n.n ≡ n + 1 = omega (arith, c.loop-n-test.true) in
    let at : get_elem? list n ≡ some c.entry_at.result = at_index list n c.entry_at.result lt c.entry_at.ensures in
    record {
      first = near;
      none = found_at ms list n c.entry_at.result None at c.in_default.ensures.laid (subst (NoneFrom ms list) next c.loop-n.invariant.none);
    }
