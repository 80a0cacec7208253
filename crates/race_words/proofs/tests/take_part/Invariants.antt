-- The seat draws one number in each turn.
use Rattle.std.proofs.Common.{◌≡◌, length}
use Rattle.race_words.proofs.tests.take_part.Given as goal

abbrev pub invariant-loop : goal.invariant-loop
invariant-loop l = record {
  race : l.seat.race ≡ l.race.id;
  share : l.seat.view.share ≡ 1;
  turns : length l.seat.view.drawn ≡ l.counter;
}
