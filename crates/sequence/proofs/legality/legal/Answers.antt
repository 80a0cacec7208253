use Rattle.std.proofs.Common.{inl, inr, subst}
use Rattle.definitions.specs.sequences.Walks.{IsWalkable, unannounced}
use Rattle.sequence.proofs.legality.legal.Goals as goal

pub returns : goal.returns
returns c =
    let q = c.args.q.now in
    let window = c.args.window.now in
    let walkable : IsWalkable window q = c.walkable.ensures.0 c.if-not-walkable.false in
    let twin : IsWalkable window (unannounced q) =
    subst (IsWalkable window) c.unannounced.ensures (c.walkable-2.ensures.0 c.if-not-walkable-2.false) in (
      λ on. (walkable, λ _. inr (inr (c.shows_leap.ensures.0 on))),
      λ legal. elim (legal.1 c.if-not-q.false) [
        | inl sixty ↦ absurd (c.if-q-eq-LEAP_SECOND.false sixty)
        | inr others ↦ elim others [
          | inl not_walkable ↦ absurd (not_walkable twin)
          | inr shows ↦ c.shows_leap.ensures.1 shows
        ]
      ],
    )
