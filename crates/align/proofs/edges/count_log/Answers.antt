use Rattle.std.proofs.Common.{◌≡◌, ℕ, ◌+◌, ◌<◌, ◌∷◌, length, drop, Option, ap, ◌∙◌, arith}
use Rattle.std.specs.Option.{option_map_or}
use Rattle.std.proofs.lemmas.List.{drop_more, drop_all}
use Rattle.std.proofs.lemmas.Option.{get_or_from_slice_get}
use Rattle.align.proofs.EdgeLaws.{sum_after, sum_of_log}
use Rattle.align.proofs.edges.count_log.Goals as goal

pub loop-i-preserved : goal.loop-i-preserved
loop-i-preserved c =
    let i = c.loop-i.i in
    let log = c.args.log.now in
    let r = c.entry-entry.result in
    let within : i < length log = omega arith in
    let rest : drop i log ≡ r ∷ drop (i + 1) log =
    drop_more log i r within ∙ ap (λ x. x ∷ drop (i + 1) log) (get_or_from_slice_get log i r r c.entry-entry.ensures.record) in
    record {
      counted = λ g.
          let split = ap (sum_after g c.args.station c.args.begin c.args.seconds c.loop-i.before) rest in
          let offset = ap (λ (o : Option ℕ). option_map_or g o 0) c.start_offset-offset.ensures.offset in
          omega (arith, c.loop-i.invariant.counted g, split, offset, c.count.ensures.more g);
      bound = λ o. omega (arith, c.loop-i.invariant.bound o, c.count.ensures.bound o);
    }

pub returns-clause-more : goal.returns-clause-more
returns-clause-more c = λ g.
    let log = c.args.log.now in
    let none = ap (sum_after g c.args.station c.args.begin c.args.seconds c.loop-i.before) (drop_all c.loop-i.i log (omega arith)) in
    omega (arith, c.loop-i.invariant.counted g, none, sum_of_log g c.args.station c.args.begin c.args.seconds log)
