-- A sequence costs a station no less than wider sets than its own.
use Rattle.std.proofs.Common.{ℕ, ◌<◌, ◌≤◌, arith}
use Rattle.signal_base.specs.declared.station.Station.{Station}
use Rattle.definitions.specs.declared.sequence.Sequence.{Sequence}
use Rattle.definitions.specs.time.Calendar.{minute_length}
use Rattle.definitions.specs.sequences.Walks.{place_at, set_at}
use Rattle.definitions.specs.heard.Costs.{sum_below, set_cost, station_cost}
use Rattle.definitions.proofs.BoundLaws.{sets_cost_no_more}
use Rattle.definitions.proofs.PlaceLaws.{within_minute}
use Rattle.definitions.proofs.SetLaws.{sent}
use Rattle.definitions.proofs.UnionLaws.{IsWithin, wider_costs_no_more}
use Rattle.walk_costs.proofs.SumLaws.{sum_le}

-- sets that have all that the sequence's have cost no more than the sequence
pub wider_sets : (station : Station) (costs : ℕ → ℕ → ℕ) (n : ℕ) (q : Sequence) → q.second < minute_length q.announced q.first → (sets : ℕ → ℕ)
    → ((k : ℕ) → k < n → sets k < 256) → ((k : ℕ) → k < n → IsWithin (set_at station q k) (sets k))
    → sum_below n (λ k. set_cost station (costs k) (sets k)) ≤ station_cost station costs n q
wider_sets station costs n q second sets byte within =
    let wider = sum_le n (λ k. set_cost station (costs k) (sets k)) (λ k. set_cost station (costs k) (set_at station q k))
    (λ k lt. wider_costs_no_more station (costs k) (set_at station q k) (sets k)
    (sent station q.announced (place_at q k).0 (place_at q k).1 (within_minute q second k)) (byte k lt) (within k lt)) in
    omega (arith, wider, sets_cost_no_more station costs n q)
