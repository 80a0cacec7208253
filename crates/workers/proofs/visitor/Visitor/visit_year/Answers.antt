-- A year that is passed over was walked by its floor, another by its own step and those of its days.
use Rattle.std.proofs.Common.{sym, subst, rules}
use Rattle.std.proofs.lemmas.Result.{on_err_weaker, on_ok_weaker}
use Rattle.field_tables.specs.Scored.{costs_of}
use Rattle.workers.specs.Steps.{HasOpened, HasStopped, HasWalked}
use Rattle.workers.proofs.Passing.{walked_by_floor}
use Rattle.workers.proofs.Walking.{with_children, with_children_stopped}
use Rattle.workers.proofs.visitor.Visitor.visit_year.Goals as goal

pub returns-in_default-clause-walked : goal.returns-in_default-clause-walked
returns-in_default-clause-walked g c =
    walked_by_floor g.K.Recorder.told c.requires.needless c.args.recorder.now c.in_default.ensures.passed

pub returns-in_default-opened-clause-walked : goal.returns-in_default-opened-clause-walked
returns-in_default-opened-clause-walked g c =
    let s = c.args.self.now in
    let read = c.in-Some.ensures in
    subst (λ w. HasWalked g.K.Recorder.told (costs_of s.tables.now) s.tables.now.window s.ceiling c.args.year.now c.args.seat.now.view w c.args.recorder.now c.take_step.new.recorder)
    (sym read.read) (rw c.in_default-opened.is at (c.in_ok-opened.ensures.passed c.args.seat.now.view read.low))

pub returns-clause-walked : goal.returns-clause-walked
returns-clause-walked g c =
    let s = c.args.self.now in
    let read = c.in-Some.ensures in
    let opened = subst (λ w. HasOpened g.K.Recorder.told s.ceiling c.args.year.now c.bound.result c.in-Some-opened._key c.args.seat.now.view w c.args.recorder.now c.take_step.new.recorder)
    (sym read.read) (rw c.in-Some-opened.is at (c.in_ok-opened.ensures.opened c.args.seat.now.view read.low)) in
    on_ok_weaker _ (with_children c.bound.ensures.bound opened (search rules)) c.visit_days.ensures.walked

pub returns-clause-stopped : goal.returns-clause-stopped
returns-clause-stopped g c =
    let s = c.args.self.now in
    let read = c.in-Some.ensures in
    let opened = subst (λ w. HasOpened g.K.Recorder.told s.ceiling c.args.year.now c.bound.result c.in-Some-opened._key c.args.seat.now.view w c.args.recorder.now c.take_step.new.recorder)
    (sym read.read) (rw c.in-Some-opened.is at (c.in_ok-opened.ensures.opened c.args.seat.now.view read.low)) in
    on_err_weaker _ (with_children_stopped c.bound.ensures.bound opened (search rules)) c.visit_days.ensures.stopped

pub returns-in_err-opened-clause-stopped : goal.returns-in_err-opened-clause-stopped
returns-in_err-opened-clause-stopped g c =
    let s = c.args.self.now in
    let stopped = subst (λ w. HasStopped g.K.Recorder.told g.K.Recorder.fails (costs_of s.tables.now) s.tables.now.window s.ceiling c.args.year.now c.args.seat.now.view w c.args.recorder.now c.take_step.new.recorder)
    (sym c.in-Some.ensures.read) (c.in_err-opened.ensures.stopped c.args.seat.now.view) in
    search rules
