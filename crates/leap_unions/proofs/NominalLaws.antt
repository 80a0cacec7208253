-- Where a walk is, by the seconds since the start of its first minute.
use Rattle.std.proofs.Common.{◌≡◌, ℕ, zero, suc, ◌+◌, ◌*◌, ◌/◌, ◌<◌, ◌≤◌, Bool, true, false, nat_lt, if◌then◌else◌, refl, ap, ◌∙◌, arith, zero-add}
use Rattle.std.proofs.lemmas.Bool.{ltb-false}
use Rattle.definitions.specs.declared.sequence.Sequence.{Sequence}
use Rattle.definitions.specs.time.Calendar.{is_leap_end, minute_length}
use Rattle.definitions.specs.sequences.Walks.{next_place, place_at}
use Rattle.definitions.proofs.PlaceLaws.{stays_in_minute}
use Rattle.sequence.proofs.Walking.{place_at-more}
use Rattle.leap_unions.specs.Pieces.{announced_from}
use Rattle.leap_unions.proofs.LeapLaws.{NoLeapEnd}
use Rattle.leap_unions.proofs.RegularLaws.{short_minute}

long_enough : (b : Bool) → 60 ≤ (if b then 61 else 60)
long_enough true = omega arith
long_enough false = omega arith

-- the seconds since the start of the century, if each minute had 60
abbrev by_sixties : ℕ × ℕ → ℕ
by_sixties place = 60 * place.0 + place.1

next_bound : (place : ℕ × ℕ) (n : ℕ) (b : Bool) → 60 ≤ n → nat_lt (place.1 + 1) n ≡ b
    → by_sixties (if b then (place.0, place.1 + 1) else (place.0 + 1, 0)) ≤ by_sixties place + 1
next_bound place n true long e = omega arith
next_bound place n false long e = (let last = ltb-false (place.1 + 1) n e in omega arith)

bound : (second first k : ℕ) → by_sixties (place_at (announced_from second first) k) ≤ 60 * first + second + k
unfolding place_at
bound second first zero = omega arith
bound second first (suc k) =
    let place = place_at (announced_from second first) k in
    omega (arith, bound second first k, next_bound place (minute_length true place.0) _ (long_enough (is_leap_end place.0)) refl)

-- a walk is in no later minute than if each had 60 seconds
pub reached : (second first k : ℕ) → (place_at (announced_from second first) k).0 ≤ first + (second + k) / 60
reached second first k = omega (arith, bound second first k)

-- a walk goes on as one that begins where it is
pub goes_on : (q r : Sequence) (j i : ℕ) → q.announced ≡ r.announced → place_at q j ≡ (r.first, r.second) → place_at q (j + i) ≡ place_at r i
unfolding place_at
goes_on q r j zero same here = (let still : j + 0 ≡ j = omega arith in ap (place_at q) still ∙ here)
goes_on q r j (suc i) same here =
    let one_more : j + suc i ≡ suc (j + i) = omega arith in
    ap (place_at q) one_more ∙ ap (λ a. next_place a (place_at q (j + i))) same ∙ ap (next_place r.announced) (goes_on q r j i same here)

pub from_second : (first second k : ℕ) → second < 60 → place_at (announced_from 0 first) (second + k) ≡ place_at (announced_from second first) k
from_second first second k small =
    goes_on (announced_from 0 first) (announced_from second first) second k refl
    (stays_in_minute (announced_from 0 first) second (omega (arith, small, long_enough (is_leap_end first))) ∙ ap (λ s. (first, s)) (zero-add second))

next_minute : (first : ℕ) → is_leap_end first ≡ false → place_at (announced_from 0 first) 60 ≡ (first + 1, 0)
next_minute first none =
    place_at-more (announced_from 0 first) 59
    ∙ ap (next_place true) (stays_in_minute (announced_from 0 first) 59 (omega (arith, long_enough (is_leap_end first))))
    ∙ ap (λ (long : ℕ). if nat_lt 60 long then (first, 60) else (first + 1, 0)) (short_minute first none)

-- through minutes of 60 seconds
pub minutes_on : (first m : ℕ) → NoLeapEnd first (first + m) → place_at (announced_from 0 first) (60 * m) ≡ (first + m, 0)
unfolding place_at
minutes_on first zero none = (let still : first ≡ first + 0 = omega arith in ap (λ (t : ℕ). (t, 0)) still)
minutes_on first (suc m) none =
    let one_more : 60 * suc m ≡ 60 * m + 60 = omega arith in
    let next : first + m + 1 ≡ first + suc m = omega arith in
    ap (place_at (announced_from 0 first)) one_more
    ∙ goes_on (announced_from 0 first) (announced_from 0 (first + m)) (60 * m) 60 refl (minutes_on first m (λ u from before. none u from (omega (arith, before))))
    ∙ next_minute (first + m) (none (first + m) (omega arith) (omega arith)) ∙ ap (λ (t : ℕ). (t, 0)) next
