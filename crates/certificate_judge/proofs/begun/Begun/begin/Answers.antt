-- The block is no item, was begun, or is begun now.
use Rattle.std.proofs.Common.{rules, ◌≡◌, false, true, get_or}
use Rattle.certificate_judge.proofs.MarkLaws.{is_item, marked_more, never_one, not_marked, was_marked}
use Rattle.certificate_judge.proofs.begun.Begun.begin.Goals as goal

pub returns-in_default-clause-not_begun : goal.returns-in_default-clause-not_begun
returns-in_default-clause-not_begun c = λ begun are one fresh. absurd (never_one c.args.self.now.items.now c.args.block.now c.in_default.ensures.none one)

pub returns-then-is_marked-clause-not_begun : goal.returns-then-is_marked-clause-not_begun
returns-then-is_marked-clause-not_begun c = λ begun are one fresh.
    let b = c.args.self.now in
    let set : get_or b.marks c.in-Some.place false ≡ true = search rules in
    absurd (fresh (was_marked b.items.now b.marks begun are c.in-Some.place c.args.block.now c.in-Some.ensures.some.0 c.in-Some.ensures.some.1 set))

pub returns-clause-some : goal.returns-clause-some
returns-clause-some c = λ is. is_item c.args.self.now.items.now c.in-Some.place c.args.block.now c.in-Some.ensures.some.0 c.in-Some.ensures.some.1

pub returns-clause-begun : goal.returns-clause-begun
returns-clause-begun c = λ begun are is.
    let b = c.args.self.now in
    let unset : get_or b.marks c.in-Some.place false ≡ false = search rules in (
      not_marked b.items.now b.marks begun are c.in-Some.place c.args.block.now c.in-Some.ensures.some.0 c.in-Some.ensures.some.1 unset,
      marked_more b.items.now b.marks begun are c.in-Some.place c.args.block.now c.in-Some.ensures.some.0 c.in-Some.ensures.some.1 b.once,
    )
