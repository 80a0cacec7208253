use Rattle.std.proofs.Common.{◌≡◌, ◌-◌, ◌≤◌, ℕ, min, ap, ◌∙◌, subst, arith}
use Rattle.signal_base.specs.declared.station.Station.{Station}
use Rattle.definitions.proofs.BoundExistLaws.{a_union}
use Rattle.minute_parts.specs.Walks.{reach}
use Rattle.field_tables.specs.Blocks.{AreUnionsOver}
use Rattle.field_tables.specs.Sums.{AreSums, Sums}
use Rattle.field_tables.proofs.BlockLaws.{has_walk, no_walk, union_over}
use Rattle.field_tables.proofs.sums.WindowSums.union_bound.Goals as goal

pub returns-then-hi-block-clause-bound : goal.returns-then-hi-block-clause-bound
returns-then-hi-block-clause-bound c =
    let sums = c.args.self.now in
    let b = c.args.block.now in
    let are = subst AreSums c.self.view_is c.self.invariant.0 in
    let cut : c.saturating_sub.result ≡ sums.end - reach sums.window b =
    c.saturating_sub.ensures ∙ ap (λ n. n - c.later_minutes-reach.result) (ap (λ (s : Sums). s.end) c.self.view_is) ∙ ap (λ n. sums.end - n) c.later_minutes-reach.ensures.count in
    no_walk sums.window b c.requires.block sums.end are.end c.requires.walks (omega (arith, are.window.not_short)) c.min-hi.result
    (c.min-hi.ensures ∙ ap (min b.hi) cut) c.if-hi-block.true

pub returns-clause-bound : goal.returns-clause-bound
returns-clause-bound c =
    let sums = c.args.self.now in
    let b = c.args.block.now in
    let are = subst AreSums c.self.view_is c.self.invariant.0 in
    let hi = c.min-hi.result in
    let cut : c.saturating_sub.result ≡ sums.end - reach sums.window b =
    c.saturating_sub.ensures ∙ ap (λ n. n - c.later_minutes-reach.result) (ap (λ (s : Sums). s.end) c.self.view_is) ∙ ap (λ n. sums.end - n) c.later_minutes-reach.ensures.count in
    let is : hi ≡ min b.hi (sums.end - reach sums.window b) = c.min-hi.ensures ∙ ap (min b.hi) cut in
    let some = c.if-hi-block.false in
    let slots : 1 ≤ sums.window.seconds = omega (arith, are.window.not_short) in
    let unions = λ (station : Station) (k : ℕ). (a_union sums.window b station k).0 in
    let over : AreUnionsOver sums.window b hi unions = λ station k heard lt.
    union_over sums.window b c.requires.block sums.end are.end c.requires.walks slots hi is some station k (unions station k) lt (a_union sums.window b station k).1 in (
      has_walk sums.window b c.requires.block sums.end are.end c.requires.walks slots hi is some,
      record {
        unions = unions;
        each = λ station k heard lt. (a_union sums.window b station k).1;
        cost = c.cost_of_unions.ensures.cost unions over;
      },
    )
