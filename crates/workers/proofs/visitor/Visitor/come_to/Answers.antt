-- The block's own step is taken by what was read.
use Rattle.std.proofs.Common.{IfNone, IfOk, IfSome, OnErr, sym, subst}
use Rattle.field_tables.specs.Scored.{costs_of}
use Rattle.workers.specs.Steps.{HasOpened, HasStopped, HasWalked}
use Rattle.workers.proofs.visitor.Visitor.come_to.Goals as goal

pub returns-clause-passed : goal.returns-clause-passed
returns-clause-passed g c =
    let s = c.args.self.now in
    subst (λ w. IfOk c.take_step.result (λ opened. IfNone opened (HasWalked g.K.Recorder.told (costs_of s.tables.now) s.tables.now.window s.ceiling c.args.found.now.block
    c.args.seat.now.view w c.args.recorder.now c.take_step.new.recorder)))
    (sym c.limit-seen.ensures.view) (c.take_step.ensures.passed c.args.seat.now.view c.limit-seen.ensures.below)

pub returns-clause-opened : goal.returns-clause-opened
returns-clause-opened g c =
    let s = c.args.self.now in
    subst (λ w. IfOk c.take_step.result (λ opened. IfSome opened (λ key. HasOpened g.K.Recorder.told s.ceiling c.args.found.now.block c.args.found.now.bound key
    c.args.seat.now.view w c.args.recorder.now c.take_step.new.recorder)))
    (sym c.limit-seen.ensures.view) (c.take_step.ensures.opened c.args.seat.now.view c.limit-seen.ensures.below)

pub returns-clause-stopped : goal.returns-clause-stopped
returns-clause-stopped g c =
    let s = c.args.self.now in
    subst (λ w. OnErr c.take_step.result (HasStopped g.K.Recorder.told g.K.Recorder.fails (costs_of s.tables.now) s.tables.now.window s.ceiling c.args.found.now.block
    c.args.seat.now.view w c.args.recorder.now c.take_step.new.recorder))
    (sym c.limit-seen.ensures.view) (c.take_step.ensures.stopped c.args.seat.now.view)
