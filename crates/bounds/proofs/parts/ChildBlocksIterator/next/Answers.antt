use Rattle.std.proofs.Common.{◌≡◌, [], sym, ◌∙◌, arith}
use Rattle.bounds.proofs.BlockLists.{none_asked, none_left, first_then, fewer}
use Rattle.bounds.proofs.parts.ChildBlocksIterator.next.Goals as goal

pub returns-then-self-eq0-clause-steps : goal.returns-then-self-eq0-clause-steps
returns-then-self-eq0-clause-steps c =
    let s = c.self.inside in
    let none : c.args.self.now ≡ [] = sym c.self.view_is ∙ none_asked s.announced s.second s.span s.most s.lo s.hi c.if-self-eq0.true in
    (none, none)

pub returns-then-self-clause-steps : goal.returns-then-self-clause-steps
returns-then-self-clause-steps c =
    let s = c.self.inside in
    let none : c.args.self.now ≡ [] = sym c.self.view_is ∙ none_left s.announced s.second s.span s.most s.lo s.hi c.if-self.true in
    (none, none)

pub returns-clause-steps : goal.returns-clause-steps
returns-clause-steps c =
    let s = c.self.inside in
    sym c.self.view_is ∙ first_then s.announced s.second s.span s.most s.lo s.hi c.end_of-hi.result (omega (arith, c.if-self-eq0.false)) c.if-self.false c.end_of-hi.ensures

pub returns-clause-goes : goal.returns-clause-goes
returns-clause-goes c =
    record { on = λ _. (tt, tt, fewer _ _ _ (returns-clause-steps c)); keeps = tt; rests = λ _. tt }
