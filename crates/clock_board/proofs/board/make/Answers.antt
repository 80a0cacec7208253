use Rattle.std.proofs.Common.{◌≡◌, [], ◌∷◌, All, subst, sym, arith}
use Rattle.std.proofs.lemmas.List.Elements.{All-append, All-cons, All-nil}
use Rattle.clock_board.specs.declared.asker.Asker.{Asker}
use Rattle.clock_board.specs.Seats.{known}
use Rattle.clock_board.specs.Shown.{Shows}
use Rattle.clock_board.specs.Views.{newcomer}
use Rattle.clock_board.proofs.board.make.Goals as goal

pub loop-preserved : goal.loop-preserved
loop-preserved c =
    let new = c.new-in-loop.result in
    let P : Asker → Type 0 = λ a. Shows a.kept [] × (known a ≡ newcomer) in
    record {
      count = omega (arith, c.push_reserved.ensures.len, c.loop.invariant.count);
      room = omega (arith, c.push_reserved.ensures.capacity, c.loop.invariant.room);
      tracker = c.loop.invariant.tracker;
      askers = subst (All P) (sym c.push_reserved.ensures.items)
          (All-append P c.loop.askers.items (new ∷ []) c.loop.invariant.askers (All-cons P new [] c.new-in-loop.ensures (All-nil P)));
    }
