use Rattle.std.proofs.Common.{◌≡◌, ◌≤◌, [], All, vec_len}
use Rattle.std.specs.Vec.{vec_capacity}
use Rattle.clock_board.specs.Seats.{known, published}
use Rattle.clock_board.specs.Shown.{Shows}
use Rattle.clock_board.specs.Views.{newcomer}
use Rattle.clock_board.proofs.board.make.Given as goal

abbrev pub invariant-loop : goal.invariant-loop
invariant-loop l = record {
  count : vec_len l.askers ≡ l.counter;
  room : l.readers ≤ vec_capacity l.askers;
  tracker : published l.tracker ≡ [];
  askers : All (λ a. Shows a.kept [] × (known a ≡ newcomer)) l.askers.items;
}
