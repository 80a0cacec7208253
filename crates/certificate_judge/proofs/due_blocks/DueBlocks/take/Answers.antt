-- The first block that waits.
use Rattle.std.proofs.Common.{IsTrue, subst, rules}
use Rattle.definitions.specs.declared.block.Block.{Block}
use Rattle.definitions.specs.answers.Blocks.{IsBlock, IsBound}
use Rattle.field_tables.specs.Scored.{Scored, costs_of}
use Rattle.certificate_walks.specs.Waiting.{CanOpen, left_of}
use Rattle.certificate_judge.proofs.DueLaws.{due_first}
use Rattle.certificate_judge.proofs.due_blocks.DueBlocks.take.Goals as goal

pub returns-then-is_same-clause-due : goal.returns-then-is_same-clause-due
returns-then-is_same-clause-due c = λ begun are.
    let s = c.args.self.now in
    let set : IsTrue c.is_same.result = search rules in
    let same = c.is_same.ensures.0 set in
    due_first s.tables.now.window (left_of s.pending) (left_of c.next-next.new.self) begun c.in-Some.found.block c.args.block.now c.in-Some.ensures.next same

pub returns-then-is_same-clause-block : goal.returns-then-is_same-clause-block
returns-then-is_same-clause-block c =
    let s = c.args.self.now in
    let set : IsTrue c.is_same.result = search rules in
    let same = c.is_same.ensures.0 set in
    subst (λ (b : Block). IsBlock s.tables.now.window b) same (subst (λ (t : Scored). IsBlock t.window c.in-Some.found.block) s.pending_is c.in-Some.ensures.block)

pub returns-then-is_same-clause-bound : goal.returns-then-is_same-clause-bound
returns-then-is_same-clause-bound c =
    let s = c.args.self.now in
    let set : IsTrue c.is_same.result = search rules in
    let same = c.is_same.ensures.0 set in
    subst (λ (b : Block). IsBound (costs_of s.tables.now) s.tables.now.window b c.in-Some.found.bound) same
    (subst (λ (t : Scored). IsBound (costs_of t) t.window c.in-Some.found.block c.in-Some.found.bound) s.pending_is c.in-Some.ensures.bound)

pub returns-then-is_same-clause-can_open : goal.returns-then-is_same-clause-can_open
returns-then-is_same-clause-can_open c =
    let set : IsTrue c.is_same.result = search rules in
    let same = c.is_same.ensures.0 set in
    subst (λ (b : Block). CanOpen b.span c.next-next.new.self) same c.in-Some.ensures.can_open
