-- The block itself, and then all that wait.
use Rattle.std.proofs.Common.{rules}
use Rattle.certificate_walks.specs.Waiting.{left_of}
use Rattle.certificate_walks.specs.Walking.{walk_at}
use Rattle.certificate_walks.proofs.StepLaws.{first_waits, none_behind, none_waits}
use Rattle.certificate_walks.proofs.walk.Walker.write_item.Goals as goal

pub returns-in_err-write_step-clause-failed : goal.returns-in_err-write_step-clause-failed
returns-in_err-write_step-clause-failed g c = λ course rest under.
    let s = c.args.self.now in
    let failed = c.in_err-write_step.ensures.failed course rest
    (none_behind (walk_at s.name.now s.tables.now s.limit) course (g.F.Files.view c.args.files.now) c.args.held.now.bytes c.args.steps.now c.args.item.now
    (left_of c.new-pending.result) rest c.new-pending.ensures.left under) in
    search rules

pub loop-next-init : goal.loop-next-init
loop-next-init g c =
    let s = c.args.self.now in record {
      tables = search rules;
      under_way = λ course rest under.
          c.in_ok-write_step.ensures.written course rest
          (none_behind (walk_at s.name.now s.tables.now s.limit) course (g.F.Files.view c.args.files.now) c.args.held.now.bytes c.args.steps.now c.args.item.now
          (left_of c.new-pending.result) rest c.new-pending.ensures.left under);
    }

pub returns-in_err-write_step-2-clause-failed : goal.returns-in_err-write_step-2-clause-failed
returns-in_err-write_step-2-clause-failed g c = λ course rest under.
    let s = c.args.self.now in
    let l = c.loop-next in
    let failed = c.in_err-write_step-2.ensures.failed course rest
    (first_waits (walk_at s.name.now s.tables.now s.limit) course (g.F.Files.view l.files) l.held.bytes l.steps c.in-Some.next.block
    (left_of c.next.new.self) rest (left_of l.pending) c.in-Some.ensures.next (l.invariant.under_way course rest under)) in
    search rules

pub loop-next-preserved : goal.loop-next-preserved
loop-next-preserved g c =
    let s = c.args.self.now in
    let l = c.loop-next in record {
      tables = search rules;
      under_way = λ course rest under.
          c.in_ok-write_step-2.ensures.written course rest
          (first_waits (walk_at s.name.now s.tables.now s.limit) course (g.F.Files.view l.files) l.held.bytes l.steps c.in-Some.next.block
          (left_of c.next.new.self) rest (left_of l.pending) c.in-Some.ensures.next (l.invariant.under_way course rest under));
    }

pub returns-clause-written : goal.returns-clause-written
returns-clause-written g c = λ course rest under.
    let s = c.args.self.now in
    let l = c.loop-next in
    none_waits (walk_at s.name.now s.tables.now s.limit) course (g.F.Files.view l.files) l.held.bytes l.steps c.args.item.now (left_of l.pending) rest c.in_default.ensures.end.0
    (l.invariant.under_way course rest under)
