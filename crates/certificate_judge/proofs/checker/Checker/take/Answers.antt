-- A byte within a line, and one that ends a line.
use Rattle.std.proofs.Common.{◌≡◌, false, None, refl, rules}
use Rattle.certificate_texts.specs.Places.{entry_of}
use Rattle.certificate_judge.proofs.FollowLaws.{byte_followed, line_followed, takes}
use Rattle.certificate_judge.proofs.checker.Checker.take.Goals as goal

pub returns-in_default : goal.returns-in_default
returns-in_default c = λ tables ceiling before stands.
    let s = c.args.self.now in
    let few : s.large ≡ false = search rules in
    let good : s.reader.bad ≡ None = search rules in
    takes s tables ceiling before c.args.byte stands few _ few refl (refl, refl)
    (λ is. byte_followed s.reader c.take.new.self s.heading s.judge before c.args.byte good is (λ bytes read so. c.in_default.ensures.none bytes read so))

pub returns : goal.returns
returns c = λ tables ceiling before stands.
    let s = c.args.self.now in
    let few : s.large ≡ false = search rules in
    let good : s.reader.bad ≡ None = search rules in
    takes s tables ceiling before c.args.byte stands few _ few refl c.follow.ensures.alike
    (λ is. line_followed s.reader c.take.new.self s.heading s.judge before c.args.byte good is c.follow.new.heading c.follow.new.judge (entry_of c.in-Some.told)
    (λ bytes read so. c.in-Some.ensures.some bytes read so) c.follow.ensures.followed)
