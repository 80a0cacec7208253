-- The sorted pairs are the receivers and the logs in order.
use Rattle.std.proofs.Common.{List, length, map, refl, sym, ap, ◌∙◌, subst, arith}
use Rattle.std.proofs.lemmas.List.Sorted.{All-permutation, length_permutation}
use Rattle.std.specs.List.Sorted.{IsNonDecreasingBy, IsPermutation}
use Rattle.signal_base.specs.Number.{number_of}
use Rattle.bank_config.specs.declared.config.Receiver.{Receiver}
use Rattle.bank_config.specs.Configuration.{plain_receiver}
use Rattle.bank_config.specs.InRange.{IsReceiverInRange}
use Rattle.bank.specs.Order.{in_station_order}
use Rattle.bank.proofs.RiseLaws.{rises_map}
use Rattle.bank.proofs.EntryLaws.{logs_in_order, one_each, receivers_in_order, same_receivers}
use Rattle.bank.proofs.order.in_station_order.Goals as goal

pub returns-clause-order : goal.returns-clause-order
returns-clause-order c =
    let rs = c.args.config.receivers.items in
    let logs = c.args.logs.items in
    let is = c.in_ok-sort_by_station.ensures.order ∙ ap (in_station_order (λ e. e.0.station)) c.in_ok-pairs.ensures in
    record {
      station_is = refl;
      ceiling_is = refl;
      costs_are = refl;
      receivers_are = ap (map plain_receiver) c.in_ok-receivers.ensures.receivers ∙ receivers_in_order rs logs c.sort_by_station.new.pairs.items is;
      logs_are = c.in_ok-receivers.ensures.logs ∙ logs_in_order rs logs c.sort_by_station.new.pairs.items is;
    }

pub returns-clause-in_range : goal.returns-clause-in_range
returns-clause-in_range c =
    let rs = c.args.config.receivers.items in
    let moved = subst (λ (xs : List Receiver). IsPermutation rs xs) (sym c.in_ok-receivers.ensures.receivers)
    (same_receivers rs c.args.logs.items c.in_ok-pairs.pairs.items c.sort_by_station.new.pairs.items c.requires.one_each c.in_ok-pairs.ensures c.in_ok-sort_by_station.ensures.permutation) in
    let is = c.requires.in_range in
    let count = length_permutation rs c.in_ok-receivers.receivers.items moved in
    record {
      ceiling = is.ceiling;
      some_receiver = omega (arith, is.some_receiver);
      few_receivers = omega (arith, is.few_receivers);
      receivers = All-permutation IsReceiverInRange rs c.in_ok-receivers.receivers.items moved is.receivers;
      priced = is.priced;
    }

pub returns-clause-one_each : goal.returns-clause-one_each
returns-clause-one_each c =
    ap length c.in_ok-receivers.ensures.logs ∙ one_each c.sort_by_station.new.pairs.items ∙ sym (ap length c.in_ok-receivers.ensures.receivers)

pub invariant_of-result : goal.invariant_of-result
invariant_of-result c = record {
  in_order =
      subst (IsNonDecreasingBy (λ r. number_of r.station)) (sym c.in_ok-receivers.ensures.receivers)
      (rises_map (λ e. e.0) (λ r. number_of r.station) c.sort_by_station.new.pairs.items c.in_ok-sort_by_station.ensures.rises);
}
