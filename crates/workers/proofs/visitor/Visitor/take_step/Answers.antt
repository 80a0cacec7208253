-- A block that is passed over was walked, and one that isn't was opened.
use Rattle.std.proofs.Common.{◌<◌, refl, arith}
use Rattle.definitions.specs.answers.Blocks.{block_key}
use Rattle.race_words.specs.Views.{after_limit}
use Rattle.block_visits.specs.Visits.{limit_at}
use Rattle.workers.proofs.Walking.{passed_none, passed_above}
use Rattle.workers.proofs.visitor.Visitor.take_step.Goals as goal

pub returns-in_default-clause-passed : goal.returns-in_default-clause-passed
returns-in_default-clause-passed g c v low =
    passed_none c.args.found.now.block v (after_limit c.args.seen v) c.args.recorder.now c.record.new.self
    c.args.seen low c.args.found.now.bound c.requires.bound c.in_ok-record.ensures.kept refl c.in_default.is

pub returns-then-key-limit-clause-passed : goal.returns-then-key-limit-clause-passed
returns-then-key-limit-clause-passed g c v low =
    let s = c.args.self.now in
    let over : limit_at s.ceiling c.args.seen < block_key c.in-Some.bound c.args.found.now.block =
    omega (arith, c.if-key-limit.true, c.block_key-key.ensures, c.limit_at-limit.ensures) in
    passed_above c.args.found.now.block v (after_limit c.args.seen v) c.args.recorder.now c.record.new.self
    c.args.seen low c.args.found.now.bound c.requires.bound c.in_ok-record.ensures.kept refl
    c.in-Some.bound c.in-Some.is over

pub returns-clause-opened : goal.returns-clause-opened
returns-clause-opened g c v low = record {
  least = c.in-Some.bound;
  seen = c.args.seen;
  has = c.in-Some.is;
  key_is = c.block_key-key.ensures;
  within = omega (arith, c.if-key-limit.false, c.limit_at-limit.ensures);
  low = low;
  view = refl;
  kept = c.in_ok-record.ensures.kept;
}
