use Rattle.std.proofs.Common.{◌+◌, ap, subst, arith}
use Rattle.std.proofs.lemmas.Bool.{lt-ltb, ltb-true}
use Rattle.field_tables.specs.Sums.{AreSums, Sums}
use Rattle.field_tables.proofs.WalkableLaws.{walks, walks_early}
use Rattle.field_tables.proofs.sums.WindowSums.walkable.Goals as goal

pub returns : goal.returns
returns c =
    let sums = c.args.self.now in
    let q = c.args.q.now in
    let are = subst AreSums c.self.view_is c.self.invariant.0 in
    let from = ap (λ (s : Sums). s.window.from) c.self.view_is in
    let to = ap (λ (s : Sums). s.window.to) c.self.view_is in
    let end = ap (λ (s : Sums). s.end) c.self.view_is in
    let later = c.later_minutes.ensures.count in (
      λ yes.
          let early = ltb-true (q.first + c.later_minutes.result) c.self.inside.end yes in
          walks sums are q c.requires.unannounced c.requires.second (omega (arith, from, c.if-q-self.false)) (omega (arith, to, c.if-q-self-2.false)) (omega (arith, early, later, end)),
      λ walk. lt-ltb (q.first + c.later_minutes.result) c.self.inside.end (omega (arith, walks_early sums are q c.requires.unannounced c.requires.second walk, later, end)),
    )
