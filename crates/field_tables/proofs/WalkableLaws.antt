-- Which sequences that aren't announced are walkable.
use Rattle.std.proofs.Common.{◌≡◌, ℕ, ◌+◌, ◌-◌, ◌/◌, ◌<◌, ◌≤◌, false, sym, ap, subst, arith}
use Rattle.definitions.specs.declared.sequence.Sequence.{Sequence}
use Rattle.definitions.specs.time.Calendar.{minute_length}
use Rattle.definitions.specs.codes.Allowed.{CanBeEncoded}
use Rattle.definitions.specs.sequences.Walks.{IsWalkable}
use Rattle.definitions.proofs.PlaceLaws.{place_at-plain}
use Rattle.minute_parts.specs.Walks.{later_minutes}
use Rattle.field_tables.specs.Sums.{AreSums, Sums}

module _ (sums : Sums) (are : AreSums sums) (q : Sequence) (unannounced : q.announced ≡ false) (second : q.second < 60) where
  -- those whose last minute comes before the end
  pub walks : sums.window.from ≤ q.first → q.first < sums.window.to → q.first + later_minutes sums.window.seconds q.second < sums.end → IsWalkable sums.window q
  walks from to early = record {
    not_before = from;
    before_end = to;
    second = let long = ap (λ a. minute_length a q.first) unannounced in omega (arith, long, second);
    encoded = λ k lt.
        subst (λ (p : ℕ × ℕ). CanBeEncoded sums.window.stations p.0) (sym (place_at-plain q k unannounced second))
        ((are.end (q.first + (q.second + k) / 60)).0 (omega (arith, early, lt)));
  }

  pub walks_early : IsWalkable sums.window q → q.first + later_minutes sums.window.seconds q.second < sums.end
  walks_early walk =
      let some : 1 ≤ sums.window.seconds = omega (arith, are.window.not_short) in
      let last : ℕ = sums.window.seconds - 1 in
      let there = subst (λ (p : ℕ × ℕ). CanBeEncoded sums.window.stations p.0) (place_at-plain q last unannounced second) (walk.encoded last (omega (arith, some))) in
      let before : q.first + (q.second + last) / 60 < sums.end = (are.end (q.first + (q.second + last) / 60)).1 there in
      omega (arith, before, some)

  pub refused_before : q.first < sums.window.from → ¬ (IsWalkable sums.window q)
  refused_before early = λ walk. omega (arith, early, walk.not_before)

  pub refused_after : sums.window.to ≤ q.first → ¬ (IsWalkable sums.window q)
  refused_after late = λ walk. omega (arith, late, walk.before_end)
