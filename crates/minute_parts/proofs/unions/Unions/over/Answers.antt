use Rattle.std.proofs.Common.{◌≡◌, ◌<◌, ◌∙◌, min, slice_index, sym, subst, ap, arith}
use Rattle.definitions.specs.codes.Allowed.{allowed}
use Rattle.minute_parts.specs.Parts.{IsInRun, IsPartTable, PartTable}
use Rattle.minute_parts.specs.Runs.{end_of_run}
use Rattle.minute_parts.specs.Unions.{IsUnionOver}
use Rattle.minute_parts.proofs.SpanLaws.{next_run, with_run}
use Rattle.minute_parts.proofs.UnionLaws.{union_none}
use Rattle.minute_parts.proofs.unions.Unions.over.Goals as goal

pub loop-i-init : goal.loop-i-init
loop-i-init c =
    let p : PartTable = c.args.self.now in
    let lo = c.args.lo in
    record {
      run = subst (λ (q : PartTable). IsInRun q lo c.run_of-i.result) c.self.view_is c.run_of-i.ensures;
      begun = omega arith;
      not_over = c.requires.some;
      union = λ s lt.
          subst (IsUnionOver p.station c.args.announced lo lo s) (sym (c.nothing-union.ensures s)) (union_none (λ t. allowed p.station c.args.announced (t, s)) lo);
    }

pub returns-then-end-hi : goal.returns-then-end-hi
returns-then-end-hi c = λ s lt.
    let p : PartTable = c.args.self.now in
    let i = c.loop-i.i in
    let t = c.loop-i.t in
    let end = c.min-end.result in
    let table = subst IsPartTable c.self.view_is c.self.invariant.0 in
    let run_end : c.run_end.result ≡ end_of_run p.runs p.end i = c.run_end.ensures ∙ ap (λ (q : PartTable). end_of_run q.runs q.end i) c.self.view_is in
    let before = c.loop-i.invariant in
    subst (λ h. IsUnionOver p.station c.args.announced c.args.lo h s (slice_index c.either-union.result s)) c.if-end-hi.true
    (with_run p table c.args.announced i c.args.lo t c.args.hi end s _ _ (slice_index c.either-union.result s)
    before.run before.begun (omega (arith, c.if-end-hi.true, before.not_over)) (omega (arith, c.if-end-hi.true))
    (omega (arith, run_end, c.min-end.ensures)) c.requires.regular.short lt (before.union s lt) (c.over_run.ensures s lt) (c.either-union.ensures.sets s lt))

pub loop-i-preserved : goal.loop-i-preserved
loop-i-preserved c =
    let p = c.args.self.now in
    let i = c.loop-i.i in
    let t = c.loop-i.t in
    let end = c.min-end.result in
    let table = subst IsPartTable c.self.view_is c.self.invariant.0 in
    let run_end : c.run_end.result ≡ end_of_run p.runs p.end i = c.run_end.ensures ∙ ap (λ (q : PartTable). end_of_run q.runs q.end i) c.self.view_is in
    let is : end ≡ min (end_of_run p.runs p.end i) c.args.hi = c.min-end.ensures ∙ ap (λ m. min m c.args.hi) run_end in
    let before = c.loop-i.invariant in
    let some : t < end = omega (arith, is, before.run.not_over, before.not_over) in
    record {
      run = next_run p table t c.args.hi i end before.run c.requires.regular.early is c.if-end-hi.false;
      begun = omega (arith, some, before.begun);
      not_over = omega (arith, is, c.if-end-hi.false);
      union = λ s lt. with_run p table c.args.announced i c.args.lo t c.args.hi end s _ _ (slice_index c.either-union.result s)
          before.run before.begun some (omega (arith, is)) (omega (arith, is)) c.requires.regular.short lt (before.union s lt) (c.over_run.ensures s lt) (c.either-union.ensures.sets s lt);
    }
