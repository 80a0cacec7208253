-- One worker alone, and two halves put together.
use Rattle.std.proofs.Common.{◌≡◌, ◌+◌, ◌-◌, ◌/◌, sym, ◌∙◌, subst, arith, rules}
use Rattle.std.proofs.lemmas.Result.{on_ok_weaker}
use Rattle.workers.specs.Recorded.{HaveShared}
use Rattle.workers.specs.Workers.{HasWorked}
use Rattle.workers.proofs.Recording.{both_recorded, one_recorded}
use Rattle.workers.proofs.sharing.+halves.Goals as goal

pub returns-then-share-eq1-clause-shared : goal.returns-then-share-eq1-clause-shared
returns-then-share-eq1-clause-shared g t c =
    let s = g.T.Team.seen c.args.team.now in
    let k = g.K.Recorder in
    on_ok_weaker c.take_part.result
    (λ (worked : HasWorked k.told s.costs s.window s.ceiling s.items c.args.seat.now.view c.take_part.new.seat.view c.args.recorder.now c.take_part.new.recorder).
    subst (λ n. HaveShared k.told k.parts k.joins s.race s.costs s.window s.ceiling s.items n c.take_part.new.seat c.args.recorder.now c.take_part.new.recorder)
    (sym c.if-share-eq1.true)
    (one_recorded k.told k.parts k.joins s.race s.costs s.window s.ceiling s.items
    c.args.seat.now c.take_part.new.seat c.args.recorder.now c.take_part.new.recorder c.requires.ready.idle (c.take_part.ensures.race ∙ c.requires.ready.race) worked))
    c.take_part.ensures.worked

pub returns-clause-shared : goal.returns-clause-shared
returns-clause-shared g t c =
    let s = g.T.Team.seen c.args.team.now in
    let k = g.K.Recorder in
    let right = c.args.share / 2 in
    let left = c.args.share - right in
    let near : HaveShared k.told k.parts k.joins s.race s.costs s.window s.ceiling s.items left
    c.seat-1.given.0 c.split.new.self c.recorder-1.given.0 = search rules in
    let far : HaveShared k.told k.parts k.joins s.race s.costs s.window s.ceiling s.items right
    c.other-2-1.given.0 c.in_ok-part.part c.part-3-1.given.0 = search rules in
    let all : left + right ≡ c.args.share = omega arith in
    on_ok_weaker c.join-2.result
    (λ (joined : k.joins c.recorder-1.given.0 c.part-3-1.given.0 c.join-2.new.self).
    subst (λ n. HaveShared k.told k.parts k.joins s.race s.costs s.window s.ceiling s.items n c.join.new.seat c.args.recorder.now c.join-2.new.self)
    all
    (both_recorded k.told k.parts k.joins s.race s.costs s.window s.ceiling s.items left right
    c.seat-1.given.0 c.other-2-1.given.0 c.join.new.seat c.args.recorder.now c.split.new.self c.in_ok-part.part c.recorder-1.given.0 c.part-3-1.given.0 c.join-2.new.self
    near far c.in_ok-part.ensures.parts joined c.join.ensures.race c.join.ensures.view))
    c.join-2.ensures.joined
