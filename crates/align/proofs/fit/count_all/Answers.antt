use Rattle.std.proofs.Common.{◌≡◌, ℕ, ◌+◌, ◌-◌, ◌<◌, ◌∷◌, List, length, get_or, drop, replicate, sym, ap, ◌∙◌, arith, None}
use Rattle.std.proofs.lemmas.List.{drop_more, drop_all}
use Rattle.signal_base.specs.declared.station.Station.{Station}
use Rattle.signal_base.specs.declared.station.Station.TheVariants.{Dcf77}
use Rattle.signal_base.specs.declared.tuning.Tuning.{Tuning}
use Rattle.definitions.specs.heard.Receivers.{receptions}
use Rattle.definitions.specs.heard.Phase.{circular_distance}
use Rattle.align.specs.Receivers.{receivers}
use Rattle.align.proofs.BankLaws.{sum_heard, sum_heard-next}
use Rattle.align.proofs.TallyLaws.{none_counted, tally_none}
use Rattle.align.proofs.fit.count_all.Goals as goal

pub loop-i-init : goal.loop-i-init
loop-i-init c = record { counted = λ g. omega (arith, tally_none (replicate 1000 0) g (none_counted 1000)); bound = λ o. omega (arith, none_counted 1000 o) }

pub loop-i-preserved : goal.loop-i-preserved
loop-i-preserved c =
    let i = c.loop-i.i in
    let ss = c.args.stations.now in
    let ts = c.args.tunings.now in
    let ls = c.args.logs.now in
    let t : Tuning = record { delay = 0; weight = 0; table = None } in
    let log = c.index-logs-i.result in
    let in_logs : i < length ls = omega arith in
    let logs : drop i ls ≡ log ∷ drop (i + 1) ls = drop_more ls i log in_logs ∙ ap (λ x. x ∷ drop (i + 1) ls) (sym c.index-logs-i.is) in
    record {
      counted = λ g.
          let next = sum_heard-next g c.args.start c.args.seconds (drop i ss) (drop (i + 1) ss) (drop i ts) (drop (i + 1) ts) (drop i ls) (drop (i + 1) ls)
          (get_or ss i Dcf77) (get_or ts i t) log (drop_more ss i Dcf77 (omega arith)) (drop_more ts i t (omega arith)) logs in
          omega (arith, c.loop-i.invariant.counted g, next, c.count_log.ensures.more g);
      bound = λ o. omega (arith, c.loop-i.invariant.bound o, c.count_log.ensures.bound o);
    }

pub returns-clause-counts : goal.returns-clause-counts
returns-clause-counts c = λ f.
    let g = λ (o : ℕ). 50 - circular_distance o f in
    let i = c.loop-i.i in
    let heard = receptions (drop i c.args.tunings.now) (drop i c.args.logs.now) in
    let none = ap (λ (ss : List Station). sum_heard g c.args.start c.args.seconds (receivers ss heard)) (drop_all i c.args.stations.now (omega arith)) in
    omega (arith, c.loop-i.invariant.counted g, none)

pub returns-clause-bound : goal.returns-clause-bound
returns-clause-bound c = λ o. omega (arith, c.loop-i.invariant.bound o)
