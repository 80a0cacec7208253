-- One item after the other.
use Rattle.std.proofs.Common.{drop, arith, rules, ◌+◌}
use Rattle.certificate_walks.specs.Walking.{walk_at}
use Rattle.certificate_walks.proofs.StepLaws.{next_item, no_item}
use Rattle.certificate_walks.proofs.walk.Walker.write_items.Goals as goal

pub loop-i-init : goal.loop-i-init
loop-i-init g c = record { within = omega arith; under_way = λ course under. under }

pub returns-in_err-write_item-clause-failed : goal.returns-in_err-write_item-clause-failed
returns-in_err-write_item-clause-failed g c = λ course under.
    let s = c.args.self.now in
    let l = c.loop-i in
    let failed = c.in_err-write_item.ensures.failed course (drop (l.i + 1) c.args.items.now)
    (next_item (walk_at s.name.now s.tables.now s.limit) course (g.F.Files.view l.files) l.held.bytes l.steps c.args.items.now l.i _ c.loop-i-test.true
    (l.invariant.under_way course under)) in
    search rules

pub loop-i-preserved : goal.loop-i-preserved
loop-i-preserved g c =
    let s = c.args.self.now in
    let l = c.loop-i in record {
      within = omega (arith, c.loop-i-test.true);
      under_way = λ course under.
          c.in_ok-write_item.ensures.written course (drop (l.i + 1) c.args.items.now)
          (next_item (walk_at s.name.now s.tables.now s.limit) course (g.F.Files.view l.files) l.held.bytes l.steps c.args.items.now l.i _ c.loop-i-test.true
          (l.invariant.under_way course under));
    }

pub returns-clause-written : goal.returns-clause-written
returns-clause-written g c = λ course under.
    let s = c.args.self.now in
    let l = c.loop-i in
    no_item (walk_at s.name.now s.tables.now s.limit) course (g.F.Files.view l.files) l.held.bytes l.steps c.args.items.now l.i c.loop-i-test.false
    (l.invariant.under_way course under)
