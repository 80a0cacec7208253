-- A stable sort by the station's place.
use Rattle.std.proofs.Common.{◌≡◌, rules}
use Rattle.std.proofs.lemmas.Result.{on_ok_weaker}
use Rattle.std.proofs.lemmas.List.Sorted.{IsNonDecreasingBy-from_sort_by_key, answers_always}
use Rattle.signal_base.specs.Number.{number_of}
use Rattle.bank.proofs.OrderLaws.{sorted}
use Rattle.bank.proofs.order.sort_by_station.Goals as goal

pub returns-clause-order : goal.returns-clause-order
returns-clause-order c =
    on_ok_weaker c.sort_by_key.result
    (λ rises.
    sorted (λ e. e.0.station) c.args.pairs.now.items c.sort_by_key.new.self.items (IsNonDecreasingBy-from_sort_by_key (λ e. number_of e.0.station) _ rises (λ a r q k. search rules))
    (c.sort_by_key.ensures.stable (λ e. number_of e.0.station) (answers_always _ (λ a r. r ≡ number_of a.0.now.0.station) _ (λ f a r f' k. search rules))))
    c.sort_by_key.ensures.sorted

pub returns-clause-rises : goal.returns-clause-rises
returns-clause-rises c =
    on_ok_weaker c.sort_by_key.result (λ rises. IsNonDecreasingBy-from_sort_by_key (λ e. number_of e.0.station) _ rises (λ a r q k. search rules)) c.sort_by_key.ensures.sorted
