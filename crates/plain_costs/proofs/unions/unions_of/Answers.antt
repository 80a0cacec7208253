use Rattle.std.proofs.Common.{◌+◌, ℕ, bit_or, slice_index, List, sym, ap, ◌∙◌, subst, arith}
use Rattle.definitions.specs.declared.sequence.Sequence.{Sequence}
use Rattle.definitions.specs.sequences.Walks.{IsWalkable, set_at}
use Rattle.plain_costs.proofs.UnionLaws.{IsUnitedTo, refutes, united_all, united_none, united_with, united_without}
use Rattle.plain_costs.proofs.unions.unions_of.Goals.{then-walkable, else-walkable}
use Rattle.plain_costs.proofs.unions.unions_of.Goals as goal

pub loop-first-init : goal.loop-first-init
loop-first-init c = λ k lt.
    let window = c.args.window.now in
    let b = c.args.block.now in
    subst (IsUnitedTo window b c.args.station k b.lo) (sym (c.no_sets-sets.ensures k)) (united_none window b c.args.station k)

pub loop-first-preserved : goal.loop-first-preserved
loop-first-preserved c = λ k lt.
    let window = c.args.window.now in
    let b = c.args.block.now in
    let station = c.args.station in
    let t = c.loop-first.first in
    let set = slice_index c.loop-first.sets k in
    let q_is = c.sequence_from-q.ensures in
    let before = c.loop-first.invariant k lt in
    elim c.if-walkable.branch [
      | then-walkable w ↦ (
          let walks = subst (IsWalkable window) q_is (c.walkable.ensures.0 w.if-walkable.true) in
          let is = ap (λ (xs : List ℕ). slice_index xs k) w.sets-is ∙ w.add_walk.ensures k lt ∙ ap (λ (q : Sequence). bit_or set (set_at station q k)) q_is in
          subst (IsUnitedTo window b station k (t + 1)) (sym is) (united_with window b station k t set (omega arith) (omega arith) walks before))
      | else-walkable w ↦ (
          let stays = refutes window b t c.sequence_from-q.result c.walkable.result q_is w.if-walkable.false c.walkable.ensures in
          let is = ap (λ (xs : List ℕ). slice_index xs k) w.sets-is in
          subst (IsUnitedTo window b station k (t + 1)) (sym is) (united_without window b station k t set stays before))
    ]

pub returns : goal.returns
returns c = λ k lt.
    united_all c.args.window.now c.args.block.now c.args.station k c.loop-first.first (slice_index c.loop-first.sets k) c.loop-first-test.false (c.loop-first.invariant k lt)
