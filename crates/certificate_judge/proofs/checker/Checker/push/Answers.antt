-- Byte by byte.
use Rattle.std.proofs.Common.{◌≡◌, ◌+◌, ◌<◌, ◌≤◌, ◌++◌, ℕ, List, length, take, get_or, refl, rules}
use Rattle.certificate_judge.proofs.FollowLaws.{all_taken, none_taken, one_taken}
use Rattle.certificate_judge.proofs.checker.Checker.push.Goals as goal

pub loop-i-init : goal.loop-i-init
loop-i-init c = record { within = search rules; stands = λ tables ceiling before stands. none_taken c.args.self.now tables ceiling before c.args.bytes.now stands }

pub loop-i-preserved : goal.loop-i-preserved
loop-i-preserved c =
    let l = c.loop-i in
    let within : l.i < length c.args.bytes.now = search rules in record {
      within = search rules;
      stands = λ tables ceiling before stands.
          one_taken c.take.new.self tables ceiling before c.args.bytes.now l.i _ 0 within refl
          (c.take.ensures tables ceiling (before ++ take l.i c.args.bytes.now) (l.invariant.stands tables ceiling before stands));
    }

pub returns : goal.returns
returns c = λ tables ceiling before stands.
    let l = c.loop-i in
    let over : length c.args.bytes.now ≤ l.i = search rules in
    all_taken l.self tables ceiling before c.args.bytes.now l.i over (l.invariant.stands tables ceiling before stands)
