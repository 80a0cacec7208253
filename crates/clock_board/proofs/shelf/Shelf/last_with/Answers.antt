-- The entry of the place that was looked at tells, where it has the millisecond; else the walk goes one place back.
use Rattle.std.proofs.Common.{◌≡◌, ◌+◌, ◌-◌, ◌<◌, ◌≤◌, None, Some, length, ap, subst, sym, ◌∙◌, arith}
use Rattle.board_entries.specs.Board.{or_before}
use Rattle.board_entries.specs.Plain.{plain}
use Rattle.clock_board.specs.Shelves.{or_laid}
use Rattle.clock_board.proofs.Listing.{NoneFrom, found_at, found_last}
use Rattle.clock_board.proofs.Looking.{lies}
use Rattle.clock_board.proofs.shelf.Shelf.last_with.Goals as goal

pub returns-in-Some-clause-list : goal.returns-in-Some-clause-list
returns-in-Some-clause-list c list shows =
    let s = c.args.self.now in
    let ms = c.args.ms in
    let n = c.loop-n.n - 1 in
    let number : s.count ≡ length list = shows.number in
    let near : s.count - 64 ≤ n = omega (arith, c.loop-n-test.true) in
    let lt : n < s.count = omega (arith, c.loop-n-test.true, c.loop-n.auto.n) in
    let next : c.loop-n.n ≡ n + 1 = omega (arith, c.loop-n-test.true) in
    let e = lies s list shows n near lt in
    let here : Some (plain c.in-Some.entry) ≡ or_before ms None (plain e.0) = c.in-Some.ensures.laid ∙ ap (or_laid ms None) (c.laid.ensures ∙ e.2) in
    sym (found_last ms list n e.0 (plain c.in-Some.entry) (omega arith) e.1 here (subst (NoneFrom ms list) next (c.loop-n.invariant.none list shows)))

pub loop-n-preserved : goal.loop-n-preserved
loop-n-preserved c =
    let s = c.args.self.now in
    let ms = c.args.ms in
    let n = c.loop-n.n - 1 in
    let near : s.count - 64 ≤ n = omega (arith, c.loop-n-test.true) in
    let lt : n < s.count = omega (arith, c.loop-n-test.true, c.loop-n.auto.n) in
    let next : c.loop-n.n ≡ n + 1 = omega (arith, c.loop-n-test.true) in
    record {
      first = near;
      none = λ list shows.
          let e = lies s list shows n near lt in
          found_at ms list n e.0 None e.1 (c.in_default.ensures.laid ∙ ap (or_laid ms None) (c.laid.ensures ∙ e.2))
          (subst (NoneFrom ms list) next (c.loop-n.invariant.none list shows));
    }
