-- Where a decided sequence is in a slot: in a minute that its stations can encode, in one of its seconds.
use Rattle.std.proofs.Common.{◌≡◌, ℕ, ◌<◌, ◌≤◌, Bool, true, false, ◌&&◌, if◌then◌else◌, sym, ap, ◌∙◌, subst, arith}
use Rattle.signal_base.specs.declared.station.Station.{Station}
use Rattle.signal_base.specs.declared.window.Window.{Window}
use Rattle.definitions.specs.declared.sequence.Sequence.{Sequence}
use Rattle.definitions.specs.codes.Allowed.{IsSetOf, allowed, encoded_year, has_station}
use Rattle.definitions.specs.time.Calendar.{century_minutes, is_leap_end, minute_length}
use Rattle.definitions.specs.sequences.Walks.{IsWalkable, place_at, set_at}
use Rattle.definitions.proofs.PlaceLaws.{within_minute}
use Rattle.definitions.proofs.SetLaws.{sent}

short : (b : Bool) → (if b then 61 else 60) ≤ 61
short true = omega arith
short false = omega arith

module _ (window : Window) (q : Sequence) (walkable : IsWalkable window q) (k : ℕ) (place : ℕ × ℕ) (here : place ≡ place_at q k) where
  pub in_minute : place.1 < minute_length q.announced place.0
  in_minute = subst (λ (p : ℕ × ℕ). p.1 < minute_length q.announced p.0) (sym here) (within_minute q walkable.second k)

  pub second_small : place.1 ≤ 60
  second_small = omega (arith, in_minute, short (q.announced && is_leap_end place.0))

  pub in_century : k < window.seconds → place.0 < century_minutes
  in_century lt = subst (λ (p : ℕ × ℕ). p.0 < century_minutes) (sym here) (walkable.encoded k lt).0

  pub encoded : (station : Station) → has_station window.stations station ≡ true → k < window.seconds → encoded_year station place.0 ≤ 2099
  encoded station heard lt = subst (λ (p : ℕ × ℕ). encoded_year station p.0 ≤ 2099) (sym here) ((walkable.encoded k lt).1 station heard)

  pub set_is : (station : Station) (set : ℕ) → set ≡ allowed station q.announced place → set ≡ set_at station q k
  set_is station set e = e ∙ ap (allowed station q.announced) here

  pub is_set : (station : Station) (set : ℕ) → set ≡ allowed station q.announced place → IsSetOf station set
  is_set station set e = subst (IsSetOf station) (sym e) (sent station q.announced place.0 place.1 in_minute)
