-- All grids were moved.
use Rattle.std.proofs.Common.{◌<◌, length, ◌∙◌, arith}
use Rattle.std.proofs.Math.ListN.{length-set}
use Rattle.bank.proofs.MovedLaws.{all_moved, one_more_moved, rest_stays}
use Rattle.bank.proofs.grids.advance_grids.Goals as goal

pub loop-i-preserved : goal.loop-i-preserved
loop-i-preserved c =
    let i = c.loop-i.i in
    let bank = c.args.bank.now in
    let window = c.args.window.now in
    let olds = c.args.grids.now in
    let sofar = c.loop-i.grids in
    let grid = c.index-grids-i.result in
    let new = c.advance_one.new.grid in
    let before = c.loop-i.invariant in
    let within : i < length sofar = omega (arith, c.loop-i-test.true, before.many) in
    record {
      many = length-set sofar i new ∙ before.many;
      moved = one_more_moved bank window c.args.by olds sofar i grid new within before.rest before.moved c.advance_one.ensures;
      rest = rest_stays bank window c.args.by olds sofar i grid new within before.rest;
    }

pub returns-clause-grids : goal.returns-clause-grids
returns-clause-grids c =
    let so_far = c.loop-i.invariant in
    all_moved c.args.bank.now c.args.window.now c.args.by c.args.grids.now c.loop-i.grids so_far.many (λ k d lt. so_far.moved k d (omega arith)) c.requires.grids
