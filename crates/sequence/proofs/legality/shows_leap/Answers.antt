use Rattle.std.proofs.Common.{sym, subst, arith, below_more}
use Rattle.definitions.specs.sequences.Walks.{place_at, unannounced}
use Rattle.sequence.specs.Sets.{SetsDiffer}
use Rattle.sequence.proofs.Walking.{place_at-zero, walked_on}
use Rattle.sequence.proofs.Differing.{refuted}
use Rattle.sequence.proofs.legality.shows_leap.Goals as goal

pub loop-init : goal.loop-init
loop-init c =
    let q = c.args.q.now in
    record {
      here = sym (place_at-zero q);
      there = sym (place_at-zero (unannounced q));
      second = c.requires.sequence.first_second;
      twin_second = c.requires.sequence.first_second;
      alike = λ k none. absurd (omega (arith, none));
    }

pub loop-preserved : goal.loop-preserved
loop-preserved c =
    let q = c.args.q.now in
    let stations = c.args.window.now.stations in
    let k = c.loop.counter in
    let on = walked_on q k _ _ c.loop.invariant.here c.next_place-place.ensures in
    let other = walked_on (unannounced q) k _ _ c.loop.invariant.there c.next_place-twin.ensures in
    let alike = refuted _ c.if-sets_differ.false c.sets_differ.ensures in
    record {
      here = on.0;
      there = other.0;
      second = on.1.second;
      twin_second = other.1.second;
      alike = below_more (λ k. SetsDiffer stations q.announced (place_at q k) (place_at (unannounced q) k) → ⊥) _ c.loop.invariant.alike
          (subst (λ p. SetsDiffer stations q.announced p (place_at (unannounced q) k) → ⊥) c.loop.invariant.here
          (subst (λ p. SetsDiffer stations q.announced c.loop.place p → ⊥) c.loop.invariant.there alike));
    }

pub returns : goal.returns
returns c =
    (λ no. cc, λ shows. absurd (c.loop.invariant.alike shows.1 (omega (arith, shows.3)) (shows.0, (shows.2, shows.4))))
