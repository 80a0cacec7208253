-- Line by line, and then the keys.
use Rattle.std.proofs.Common.{◌≡◌, ◌+◌, ◌<◌, ◌≤◌, ◌∷◌, ◌++◌, [], ℕ, inr, List, length, length-take, take, IsTrue, sym, ap, ◌∙◌, subst, arith, rules}
use Rattle.std.proofs.lemmas.List.{take_all, take_more}
use Rattle.field_tables.specs.Scored.{Scored, costs_of}
use Rattle.certificates.specs.declared.certificate.Head.{Head}
use Rattle.certificates.specs.declared.certificate.Line.{Line}
use Rattle.certificates.specs.declared.limits.TheConstants.{MOST_STEPS}
use Rattle.certificates.specs.Certificates.{lines_of}
use Rattle.certificates.specs.Validity.{limit_named}
use Rattle.certificates.specs.Verdicts.{IsFoundOf}
use Rattle.certificate_judge.specs.Judging.{IsJudged}
use Rattle.certificate_judge.proofs.whole.check.Goals as goal

pub loop-i-preserved : goal.loop-i-preserved
loop-i-preserved c =
    let l = c.loop-i in
    let lines = c.args.lines.now in
    let line = c.line_at.result.now in
    let within : l.i < length lines = search rules in
    let few : length (take l.i lines) < MOST_STEPS = omega (arith, length-take l.i lines, within, c.requires.few) in record {
      within = search rules;
      judged =
          subst (λ (ls : List Line). IsJudged c.limit_named-limit.result c.take.new.self ls)
          (sym (take_more lines l.i line within ∙ ap (λ (m : Line). take l.i lines ++ m ∷ []) (c.line_at.ensures line)))
          (c.take.ensures.judged (take l.i lines) few l.invariant.judged);
      tables = c.take.ensures.alike.0 ∙ l.invariant.tables;
      ceiling = c.take.ensures.alike.1 ∙ l.invariant.ceiling;
    }

pub returns : goal.returns
returns c = λ certificate head same.
    let l = c.loop-i in
    let j = l.judge in
    let h = c.args.head.now in
    let t = c.args.tables.now in
    let lines = c.args.lines.now in
    let over : length lines ≤ l.i = search rules in
    let set : IsTrue c.is_of.result = search rules in
    let is = c.is_of.ensures.0 set in
    let limit : c.limit_named-limit.result ≡ limit_named j.ceiling h.second =
    c.limit_named-limit.ensures ∙ ap (λ (n : ℕ). limit_named n h.second) (sym l.invariant.ceiling) in
    let judged : IsJudged (limit_named j.ceiling h.second) j lines =
    subst (λ (n : ℕ). IsJudged n j lines) limit
    (subst (λ (ls : List Line). IsJudged c.limit_named-limit.result j ls) (take_all l.i lines over) l.invariant.judged) in
    let found = c.finish.ensures lines c.requires.few judged in
    inr (
      (ap (λ (g : Head). g.window) head ∙ is.0, ap (λ (g : Head). g.ceiling) head ∙ is.1),
      subst (λ (g : Head). IsFoundOf (costs_of t) t.window c.args.ceiling g.first g.second (lines_of certificate) c.finish.result) (sym head)
          (subst (λ (ls : List Line). IsFoundOf (costs_of t) t.window c.args.ceiling h.first h.second ls c.finish.result) (sym same)
          (subst (λ (n : ℕ). IsFoundOf (costs_of t) t.window n h.first h.second lines c.finish.result) l.invariant.ceiling
          (subst (λ (s : Scored). IsFoundOf (costs_of s) s.window j.ceiling h.first h.second lines c.finish.result) l.invariant.tables found))),
    )
