use Rattle.std.proofs.Common.{◌≡◌, ℕ, ◌+◌, length, Option, sym, ap, ◌∙◌, arith}
use Rattle.std.specs.Option.{option_map_or}
use Rattle.align.specs.Counters.{tally}
use Rattle.align.proofs.TallyLaws.{tally_more}
use Rattle.align.proofs.edges.count.Goals as goal

pub returns-in-Some-clause-more : goal.returns-in-Some-clause-more
returns-in-Some-clause-more c = λ g.
    let counts = c.args.counts.now in
    let within = c.requires.within c.in-Some.offset c.in-Some.is in
    let long : length counts ≡ 1000 = omega arith in
    tally_more counts c.in-Some.offset g long within ∙ ap (λ (o : Option ℕ). tally counts g + option_map_or g o 0) (sym c.in-Some.is)
