-- What the times of day cost all stations of a window together.
use Rattle.std.proofs.Common.{◌≡◌, ℕ, zero, suc, ◌+◌, ◌-◌, ◌*◌, ◌%◌, ◌<◌, ◌≤◌, ◌==◌, Bool, true, false, if◌then◌else◌, nat_lt, List, [], ◌∷◌, length, get_or, take, refl, ap, ◌∙◌, arith, add-one}
use Rattle.std.proofs.Math.Nat.{min-le_left}
use Rattle.slot_columns.specs.Layered.{AreAdded}
use Rattle.minute_parts.specs.Walks.{later_minutes}
use Rattle.walk_costs.specs.Apart.{time_cost}
use Rattle.walk_costs.specs.Walks.{PricedParts}
use Rattle.field_tables.specs.Seasons.{IsRowOf, IsTimeRow, last_shift, piece_to, times_together}

-- one more station
more_at : (ws : List PricedParts) (shifts : List ℕ) (p t i : ℕ) (w : PricedParts) → i < length ws → i < length shifts → w ≡ get_or ws i w
    → times_together (take (suc i) ws) shifts p t ≡ times_together (take i ws) shifts p t + time_cost w p ((t + get_or shifts i 0) % 1440)
unfolding times_together
more_at [] shifts p t i w lt within is = absurd (omega arith)
more_at (x ∷ ws) [] p t i w lt within is = absurd (omega arith)
more_at (x ∷ ws) (s ∷ ss) p t zero w lt within is = omega (arith, ap (λ (v : PricedParts). time_cost v p ((t + s) % 1440)) is)
more_at (x ∷ ws) (s ∷ ss) p t (suc i) w lt within is = omega (arith, more_at ws ss p t i w (omega arith) (omega arith) is)

pub times_more : (ws : List PricedParts) (shifts : List ℕ) (p t i : ℕ) (w : PricedParts) → i < length ws → i < length shifts → w ≡ get_or ws i w
    → times_together (take (i + 1) ws) shifts p t ≡ times_together (take i ws) shifts p t + time_cost w p ((t + get_or shifts i 0) % 1440)
times_more ws shifts p t i w lt within is = ap (λ n. times_together (take n ws) shifts p t) (add-one i) ∙ more_at ws shifts p t i w lt within is

-- of no station
pub times_none : (ws : List PricedParts) (shifts : List ℕ) (p t : ℕ) → times_together (take 0 ws) shifts p t ≡ 0
unfolding times_together
times_none ws shifts p t = refl

-- a local time depends on the minute of the day alone
pub turned : (t shift : ℕ) → (t % 1440 + shift) % 1440 ≡ (t + shift) % 1440
turned t shift = omega arith

-- and so does what they cost
pub of_day : (ws : List PricedParts) (shifts : List ℕ) (p t : ℕ) → times_together ws shifts p (t % 1440) ≡ times_together ws shifts p t
unfolding times_together
of_day [] shifts p t = refl
of_day (w ∷ ws) [] p t = refl
of_day (w ∷ ws) (s ∷ ss) p t = omega (arith, ap (time_cost w p) (turned t s), of_day ws ss p t)

either : (P : ℕ → Type 0) (c : Bool) (a b : ℕ) → P a → P b → P (if c then a else b)
either P true a b one other = one
either P false a b one other = other

-- each piece ends in the day
pub ends_in_day : (later piece : ℕ) → piece_to later piece ≤ 1440
ends_in_day later piece =
    either (λ n. n ≤ 1440) (nat_lt piece 24) _ _ (omega (arith, min-le_left (1440 - later) ((piece + 1) * 60)))
    (either (λ n. n ≤ 1440) (piece == 25) _ _ (omega arith) (omega arith))

-- rows by the cost of each minute are rows by what the times of day cost, if that is no less
pub as_time_rows : (stations : List PricedParts) (shifts : List ℕ) (seconds p : ℕ) (times : List ℕ) (old new : List (List ℕ)) (n : ℕ)
    → ((v : ℕ) → v < 1440 → get_or times v 0 ≤ times_together stations shifts p v)
    → AreAdded [] (IsRowOf times (last_shift shifts) (later_minutes seconds p)) old new n
    → AreAdded [] (IsTimeRow stations shifts seconds p) old new n
as_time_rows stations shifts seconds p times old new n less are = record {
  count = are.count;
  kept = are.kept;
  each = λ j lt v from to.
      let within : v < 1440 = omega (arith, to, ends_in_day (later_minutes seconds p) j) in
      omega (arith, are.each j lt v from to, less v within);
}
