-- A worker's turns.
use Rattle.std.proofs.Common.{length, ap, ◌∙◌, arith}
use Rattle.std.proofs.lemmas.Option.{slice_get-get_or}
use Rattle.race_words.specs.declared.view.View.{View}
use Rattle.field_tables.specs.Scored.{costs_of}
use Rattle.workers.proofs.Taking.{gained_steps}
use Rattle.workers.proofs.Working.{drawn_room, finished, higher, next_drawn}
use Rattle.workers.proofs.crew.CrewTeam.take_part.Goals as goal

pub draw-number-requires-in-loop-number-clause-room :
    goal.draw-number-requires-in-loop-number-clause-room
draw-number-requires-in-loop-number-clause-room g c =
    let s = c.args.self.now in
    let at = c.loop-number in
    let walked = c.in_ok-visit_item.ensures.walked in
    let gained = gained_steps s.visitor.ceiling walked.steps at.seat.view c.visit_item.new.seat.view walked.view in
    let room = drawn_room g.K.Recorder.told (costs_of s.visitor.tables.now) s.visitor.tables.now.window s.visitor.ceiling s.items.now
    c.args.seat.now.view at.seat.view c.args.recorder.now at.recorder at.number at.invariant.working in
    omega (arith, room, ap length gained.drawn, gained.share, at.invariant.share, c.loop-number-test.true, c.requires.items.few, c.requires.share)

pub loop-number-smaller : goal.loop-number-smaller
loop-number-smaller g c =
    let s = c.args.self.now in
    let at = c.loop-number in
    let up = higher g.K.Recorder.told (costs_of s.visitor.tables.now) s.visitor.tables.now.window s.visitor.ceiling s.items.now
    c.args.seat.now.view at.seat.view c.visit_item.new.seat.view c.args.recorder.now at.recorder c.visit_item.new.recorder at.number c.draw-number-in-loop-number.result _
    at.invariant.working c.in_ok-visit_item.ensures.walked c.draw-number-in-loop-number.ensures.above in
    omega (arith, up, c.loop-number-test.true)

pub loop-number-preserved : goal.loop-number-preserved
loop-number-preserved g c =
    let s = c.args.self.now in
    let at = c.loop-number in
    let visited = c.in_ok-visit_item.ensures in
    let drawn = c.draw-number-in-loop-number in
    let gained = gained_steps s.visitor.ceiling visited.walked.steps at.seat.view c.visit_item.new.seat.view visited.walked.view in record {
      race = drawn.ensures.race ∙ (visited.race ∙ at.invariant.race);
      share = ap (λ (v : View). v.share) drawn.ensures.view ∙ (gained.share ∙ at.invariant.share);
      working = next_drawn g.K.Recorder.told (costs_of s.visitor.tables.now) s.visitor.tables.now.window s.visitor.ceiling s.items.now
          c.args.seat.now.view at.seat.view c.visit_item.new.seat.view drawn.new.seat.view c.args.recorder.now at.recorder c.visit_item.new.recorder
          at.number drawn.result _ at.invariant.working (slice_get-get_or s.items.now at.number _ c.loop-number-test.true) visited.walked drawn.ensures.view drawn.ensures.above;
    }

pub returns-clause-worked : goal.returns-clause-worked
returns-clause-worked g c =
    let s = c.args.self.now in
    let at = c.loop-number in
    finished g.K.Recorder.told (costs_of s.visitor.tables.now) s.visitor.tables.now.window s.visitor.ceiling s.items.now
    c.args.seat.now.view at.seat.view c.args.recorder.now at.recorder at.number at.invariant.working c.loop-number-test.false
