-- The line is wrong in one of three ways, or it is kept.
use Rattle.std.proofs.Common.{◌≡◌, ◌≢◌, ◌+◌, ◌∷◌, ◌++◌, [], ℕ, List, Option, false, IsTrue, sym, ap, ◌∙◌, subst, arith, rules}
use Rattle.definitions.specs.declared.block.Block.{Block}
use Rattle.definitions.specs.answers.Blocks.{IsBound, items}
use Rattle.field_tables.specs.Scored.{costs_of}
use Rattle.certificates.specs.Validity.{IsAbove, opened_by}
use Rattle.certificates.specs.Verdicts.{begun_with}
use Rattle.certificate_walks.specs.Waiting.{left_of}
use Rattle.certificate_judge.specs.Judging.{bench_of, kept_by}
use Rattle.certificate_judge.specs.Marks.{AreMarked}
use Rattle.certificate_judge.proofs.JudgeLaws.{going, line_more, not_above, not_due, wrong_bound}
use Rattle.certificate_judge.proofs.MarkLaws.{true_false}
use Rattle.certificate_judge.proofs.judge.Judge.judge.Goals as goal

pub returns-in_default-clause-judged : goal.returns-in_default-clause-judged
returns-in_default-clause-judged c = λ ls few judged.
    let s = c.args.self.now in
    let b = bench_of s.due.tables.now s.ceiling c.args.limit in
    not_due b (kept_by s) ls c.args.line.now (going b s.verdict (kept_by s) ls c.requires.good judged) (λ begun are. c.in_default.ensures.not_due begun are)

pub returns-then-ne-clause-judged : goal.returns-then-ne-clause-judged
returns-then-ne-clause-judged c = λ ls few judged.
    let s = c.args.self.now in
    let l = c.args.line.now in
    let b = bench_of s.due.tables.now s.ceiling c.args.limit in
    let other : c.in-Some.found.bound ≢ l.bound = search rules in
    wrong_bound b (kept_by s) ls l (going b s.verdict (kept_by s) ls c.requires.good judged) (λ begun are. c.in-Some.ensures.due begun are)
    (λ is. other (c.bound_is_one.ensures.bound b.costs b.window l.block c.in-Some.found.bound l.bound c.in-Some.ensures.bound is))

pub returns-then-not-is_above-clause-judged : goal.returns-then-not-is_above-clause-judged
returns-then-not-is_above-clause-judged c = λ ls few judged.
    let s = c.args.self.now in
    let l = c.args.line.now in
    let b = bench_of s.due.tables.now s.ceiling c.args.limit in
    let same : c.in-Some.found.bound ≡ l.bound = search rules in
    let unset : c.is_above.result ≡ false = search rules in
    not_above b (kept_by s) ls l (going b s.verdict (kept_by s) ls c.requires.good judged) (λ begun are. c.in-Some.ensures.due begun are)
    (subst (λ (n : Option ℕ). IsBound b.costs b.window l.block n) same c.in-Some.ensures.bound)
    (λ above. true_false c.is_above.result unset (c.is_above.ensures.1 above))

pub returns-clause-judged : goal.returns-clause-judged
returns-clause-judged c = λ ls few judged.
    let s = c.args.self.now in
    let l = c.args.line.now in
    let b = bench_of s.due.tables.now s.ceiling c.args.limit in
    let same : c.in-Some.found.bound ≡ l.bound = search rules in
    let set : IsTrue c.is_above.result = search rules in
    let is = going b s.verdict (kept_by s) ls c.requires.good judged in
    line_more b (kept_by s) ls l is (λ begun are. c.in-Some.ensures.due begun are)
    (subst (λ (n : Option ℕ). IsBound b.costs b.window l.block n) same c.in-Some.ensures.bound)
    (record { marks = c.open.new.self.begun.marks; due = left_of c.open.new.self.pending; step = c.saturating_add-self.result; ends = c.ends_with-self.result })
    (c.is_above.ensures.0 set)
    (λ begun are.
    subst (λ (ms : _). AreMarked (items b.window) ms (begun_with (left_of s.due.pending) begun l.block)) (sym c.open.ensures.marks) (c.in-Some.ensures.marks begun are))
    (c.open.ensures.left ∙ ap (λ (bs : List Block). opened_by l ++ bs) c.in-Some.ensures.left)
    (omega (arith, c.saturating_add-self.ensures, is.number, few)) c.ends_with-self.ensures
