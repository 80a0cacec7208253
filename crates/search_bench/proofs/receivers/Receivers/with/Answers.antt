-- The receivers stay in the order of their stations, and tuned.
use Rattle.std.proofs.Common.{List, [], ◌∷◌, subst}
use Rattle.std.proofs.lemmas.List.Elements.{All-append, All-cons, All-nil}
use Rattle.std.proofs.lemmas.List.Sorted.{IsNonDecreasingBy-push}
use Rattle.signal_base.specs.Limits.{IsTuned}
use Rattle.signal_base.specs.Number.{number_of}
use Rattle.signal_base.specs.declared.station.Station.{Station}
use Rattle.search_bench.specs.Stations.{ComesNext}
use Rattle.search_bench.proofs.receivers.Receivers.with.Goals as goal

pub invariant_of-result-clause-tuned : goal.invariant_of-result-clause-tuned
invariant_of-result-clause-tuned c =
    rw c.in_ok-push-2.ensures.items
    (All-append IsTuned c.args.self.tunings.items (c.args.tuning ∷ []) c.args.self.tuned (All-cons IsTuned c.args.tuning [] c.requires (All-nil IsTuned)))

pub invariant_of-result-clause-in_order : goal.invariant_of-result-clause-in_order
invariant_of-result-clause-in_order c =
    let ss = c.args.self.stations.items in
    let next = subst (λ (xs : List Station). ComesNext xs c.args.station) c.as_slice.ensures.value (c.comes_next.ensures c.if-not-comes_next.false) in
    rw c.in_ok-push.ensures.items (IsNonDecreasingBy-push number_of ss c.args.station c.args.self.in_order next)
