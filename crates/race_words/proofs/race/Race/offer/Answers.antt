-- The two steps are the two parts of an offer.
use Rattle.std.proofs.Common.{rules, ◌≤◌, sym, ap, ◌∙◌, subst}
use Rattle.race_words.specs.declared.view.View.{View}
use Rattle.race_words.proofs.Steps.{offers_step, settles_step}
use Rattle.race_words.proofs.race.Race.offer.Goals as goal

pub fetch_min-least-requires : goal.fetch_min-least-requires
fetch_min-least-requires c = (
  search rules,
  search rules,
  offers_step _ _ _ _ c.seat.invariant.1.share c.args.key c.seat.invariant.1.nothing c.requires.key,
)

pub fetch_min-requires : goal.fetch_min-requires
fetch_min-requires c = let first = c.fetch_min-least.ensures.2.0 in (
  search rules,
  search rules,
  settles_step _ _ _ _ (subst (λ (w : View). 1 ≤ w.share) (sym first) c.seat.invariant.1.share) _ (c.max-carried.ensures ∙ sym (ap (λ (w : View). w.carried) first)),
)
