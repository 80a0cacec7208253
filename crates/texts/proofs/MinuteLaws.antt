-- The minutes of a window: how a walk goes on, and how many lines it takes.
use Rattle.std.proofs.Common.{◌≡◌, ℕ, zero, suc, ◌+◌, ◌*◌, ◌<◌, ◌≤◌, Bool, true, false, nat_lt, cond, List, ◌++◌, ◌&&◌, refl, append_assoc, add-one, arith}
use Rattle.std.proofs.lemmas.Bool.{ltb-true, ltb-false}
use Rattle.definitions.specs.declared.sequence.Sequence.{Sequence}
use Rattle.definitions.specs.time.Calendar.{minute_length, is_leap_end}
use Rattle.definitions.specs.sequences.Walks.{place_at, next_place}
use Rattle.formats.specs.Reports.{at_minute, at_minutes}

-- How many seconds ago a minute began. Where one begins now, it is a whole minute, since its line is still to come.
abbrev pub since_minute : ℕ → ℕ
since_minute zero = 60
since_minute (suc n) = suc n

-- a minute has 60 or 61 seconds
minute_is_long : (b : Bool) → (60 ≤ cond b 61 60) × (cond b 61 60 ≤ 61)
minute_is_long true = (omega arith, omega arith)
minute_is_long false = (omega arith, omega arith)

pub at_most_61 : (announced : Bool) (t : ℕ) → minute_length announced t ≤ 61
at_most_61 announced t = (minute_is_long (announced && is_leap_end t)).1

module _ (announced : Bool) (place : ℕ × ℕ) (small : place.1 ≤ 60) where
  -- the seconds of a walk are at most 60
  pub next_second : (next_place announced place).1 ≤ 60
  next_second = by_room _ refl
    where
      by_room : (b : Bool) → nat_lt (place.1 + 1) (minute_length announced place.0) ≡ b → (next_place announced place).1 ≤ 60
      by_room true e = rw e (omega (arith, ltb-true _ _ e, (minute_is_long (announced && is_leap_end place.0)).1))
      by_room false e = rw e (omega arith)

  -- a second later the minute began a second earlier, if not now
  pub since_next : since_minute (next_place announced place).1 ≤ place.1 + 1
  since_next = by_room _ refl
    where
      by_room : (b : Bool) → nat_lt (place.1 + 1) (minute_length announced place.0) ≡ b → since_minute (next_place announced place).1 ≤ place.1 + 1
      by_room true e = rw (e, add-one) (omega arith)
      by_room false e = rw e (omega (arith, ltb-false _ _ e, (minute_is_long (announced && is_leap_end place.0)).0))

-- Each line takes at least 60 seconds: a slot more, with its line if a minute begins there.
pub lines_fit : (place : ℕ × ℕ) (next lines more base k : ℕ) → next ≤ place.1 + 1 → (place.1 ≡ 0 → more ≡ lines + 1) → (0 < place.1 → more ≡ lines)
    → 60 * lines + since_minute place.1 ≤ base + k → 60 * more + next ≤ base + (k + 1)
lines_fit place next lines more base k le begins goes_on fits = by_second place.1 le begins goes_on fits
  where
    by_second : (second : ℕ) → next ≤ second + 1 → (second ≡ 0 → more ≡ lines + 1) → (0 < second → more ≡ lines)
        → 60 * lines + since_minute second ≤ base + k → 60 * more + next ≤ base + (k + 1)
    by_second zero le begins goes_on fits = omega (arith, begins refl)
    by_second (suc n) le begins goes_on fits = omega (arith, goes_on (omega arith))

-- one more slot
pub minutes_more : (text : ℕ → ℕ → List ℕ) (q : Sequence) (k : ℕ) (place : ℕ × ℕ) (start before after : List ℕ) → place ≡ place_at q k
    → before ≡ start ++ at_minutes text q k → after ≡ before ++ at_minute text place k → after ≡ start ++ at_minutes text q (k + 1)
unfolding at_minutes
minutes_more text q k place start before after is so_far more =
    rw (more, so_far, is, add-one) (append_assoc start (at_minutes text q k) (at_minute text (place_at q k) k))
