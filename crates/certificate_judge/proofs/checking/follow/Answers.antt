-- By what the line tells.
use Rattle.std.proofs.Common.{◌∷◌, ◌++◌, [], ℕ, sym, ap, subst}
use Rattle.certificates.specs.Validity.{limit_named}
use Rattle.certificate_texts.specs.Places.{entry_of, head_line_of}
use Rattle.certificate_judge.specs.Judging.{IsJudged}
use Rattle.certificate_judge.proofs.FollowLaws.{end_followed, head_followed, part_followed, step_followed}
use Rattle.certificate_judge.proofs.checking.follow.Goals as goal

pub returns-in-Head-clause-followed : goal.returns-in-Head-clause-followed
returns-in-Head-clause-followed c = λ read last is lead.
    head_followed c.args.heading.now c.args.judge.now read is (entry_of c.args.told.now) last lead (head_line_of c.in-Head.part) c.in-Head.value
    (ap entry_of c.in-Head.is) c.tell.new.self c.tell.ensures

pub returns-in-Step-clause-followed : goal.returns-in-Step-clause-followed
returns-in-Step-clause-followed c = λ read last is lead.
    let j = c.args.judge.now in
    let l = c.in-Step.line in
    step_followed c.args.heading.now j read is (entry_of c.args.told.now) last lead l (ap entry_of c.in-Step.is) c.take.new.self c.take.ensures.alike.1
    (λ ls few judged.
    subst (λ (n : ℕ). IsJudged n c.take.new.self (ls ++ l ∷ [])) c.limit_named-limit.ensures
    (c.take.ensures.judged ls few (subst (λ (n : ℕ). IsJudged n j ls) (sym c.limit_named-limit.ensures) judged)))

pub returns-in-Part-clause-followed : goal.returns-in-Part-clause-followed
returns-in-Part-clause-followed c = λ read last is lead.
    part_followed c.args.heading.now c.args.judge.now read is (entry_of c.args.told.now) last lead c.in-Part.number (ap entry_of c.in-Part.is)

pub returns-in-End-clause-followed : goal.returns-in-End-clause-followed
returns-in-End-clause-followed c = λ read last is lead.
    end_followed c.args.heading.now c.args.judge.now read is (entry_of c.args.told.now) last lead (ap entry_of c.in-End.is)
