-- A worker who has yet to look at the number that it drew.
use Rattle.std.proofs.Common.{◌≡◌, length, ◌-◌}
use Rattle.field_tables.specs.Scored.{costs_of}
use Rattle.workers.proofs.Working.{IsWorking}
use Rattle.workers.proofs.crew.CrewTeam.take_part.Given as goal

abbrev pub invariant-loop-number : goal.invariant-loop-number
invariant-loop-number g l = record {
  race : l.seat.race ≡ l.fn.seat.race;
  share : l.seat.view.share ≡ l.fn.seat.view.share;
  working : IsWorking g.K.Recorder.told (costs_of l.self.visitor.tables.now) l.self.visitor.tables.now.window l.self.visitor.ceiling l.self.items.now
      l.fn.seat.view l.fn.recorder l.number l.seat.view l.recorder;
}

abbrev pub decreases-loop-number : goal.decreases-loop-number
decreases-loop-number g l = length l.self.items.now - l.number
