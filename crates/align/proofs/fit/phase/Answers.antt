use Rattle.std.proofs.Common.{◌-◌, ◌∙◌}
use Rattle.definitions.specs.heard.Receivers.{receptions}
use Rattle.definitions.specs.heard.Phase.{agreement, circular_distance}
use Rattle.align.specs.Counters.{tally}
use Rattle.align.specs.Receivers.{receivers}
use Rattle.align.proofs.FitLaws.{first_maximum_same}
use Rattle.align.proofs.fit.phase.Goals as goal

pub returns : goal.returns
returns c =
    c.best.ensures
    ∙ first_maximum_same (λ f. tally c.count_all.result (λ o. 50 - circular_distance o f))
    (agreement c.args.start c.args.seconds (receivers c.args.stations.now (receptions c.args.tunings.now c.args.logs.now))) 999 c.count_all.ensures.counts
