-- The step is looks at the second word, in a row.
use Rattle.std.proofs.Common.{rules, ◌∙◌, sym, subst}
use Rattle.race_words.specs.Held.{IsAtRest}
use Rattle.race_words.proofs.Looking.{at_rest_often, looks_often_step}
use Rattle.race_words.proofs.race.Race.limit_often.Goals as goal

pub load-requires : goal.load-requires
load-requires g c = (search rules, search rules, looks_often_step _ _ _ _ c.seat.invariant.1.share g.O.Often.often c.seat.invariant.1.nothing)

pub invariant_of-seat : goal.invariant_of-seat
invariant_of-seat g c =
    let looked = c.load.ensures.2 in (
      looked.1 ∙ c.seat.invariant.0,
      subst IsAtRest (sym looked.0) (at_rest_often (g.O.Often.often c.load.result) c.load.result _ c.seat.invariant.1),
    )
