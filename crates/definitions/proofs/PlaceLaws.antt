-- Where a walk is: within its minutes, and by sixties where there is no leap second.
use Rattle.std.proofs.Common.{◌≡◌, ◌≢◌, ℕ, zero, suc, ◌+◌, ◌/◌, ◌%◌, ◌<◌, Bool, true, false, ◌&&◌, nat_lt, if◌then◌else◌, refl, ap, ◌∙◌, arith}
use Rattle.std.proofs.lemmas.Bool.{lt-ltb, ltb-true, ltb-false, ne_eqb}
use Rattle.definitions.specs.declared.sequence.Sequence.{Sequence}
use Rattle.definitions.specs.time.Calendar.{minute_length, is_leap_end}
use Rattle.definitions.specs.sequences.Walks.{next_place, place_at}

-- the second that comes n seconds after the start of a minute, where no minute has a second 60
abbrev pub plain_place : ℕ → ℕ → ℕ × ℕ
plain_place t n = (t + n / 60, n % 60)

same_place : (m s m' s' : ℕ) → m ≡ m' → s ≡ s' → ◌≡◌ {A = ℕ × ℕ} (m, s) (m', s')
same_place m s m' s' e g = cc

plain_step : (t n : ℕ) (b : Bool) → nat_lt (n % 60 + 1) 60 ≡ b → next_place false (plain_place t n) ≡ plain_place t (suc n)
plain_step t n true e =
    let within = ltb-true (n % 60 + 1) 60 e in
    rw e (same_place _ _ _ _ (omega arith) (omega arith))
plain_step t n false e =
    let last = ltb-false (n % 60 + 1) 60 e in
    rw e (same_place _ _ _ _ (omega arith) (omega arith))

-- A sequence that isn't announced counts its seconds by sixty.
pub place_at-plain : (q : Sequence) (k : ℕ) → q.announced ≡ false → q.second < 60 → place_at q k ≡ plain_place q.first (q.second + k)
unfolding place_at
place_at-plain q zero plain small = same_place _ _ _ _ (omega arith) (omega arith)
place_at-plain q (suc k) plain small =
    let one_more : suc (q.second + k) ≡ q.second + suc k = omega arith in
    ap (λ a. next_place a (place_at q k)) plain ∙ ap (next_place false) (place_at-plain q k plain small)
    ∙ plain_step q.first (q.second + k) _ refl ∙ ap (plain_place q.first) one_more

some_seconds : (b : Bool) → 0 < (if b then 61 else 60)
some_seconds true = omega arith
some_seconds false = omega arith

abbrev pub IsInMinute : Bool → ℕ × ℕ → Type 0
IsInMinute announced place = place.1 < minute_length announced place.0

next_within : (announced : Bool) (place : ℕ × ℕ) (b : Bool) → nat_lt (place.1 + 1) (minute_length announced place.0) ≡ b
    → IsInMinute announced (if b then (place.0, place.1 + 1) else (place.0 + 1, 0))
next_within announced place true e = ltb-true _ _ e
next_within announced place false e = some_seconds (announced && is_leap_end (place.0 + 1))

-- a walk stays within its minutes
pub within_minute : (q : Sequence) → q.second < minute_length q.announced q.first → (k : ℕ) → IsInMinute q.announced (place_at q k)
unfolding place_at
within_minute q lt zero = lt
within_minute q lt (suc k) = next_within q.announced (place_at q k) (nat_lt ((place_at q k).1 + 1) (minute_length q.announced (place_at q k).0)) refl

-- a walk stays in its first minute as long as this has seconds
pub stays_in_minute : (q : Sequence) (k : ℕ) → q.second + k < minute_length q.announced q.first → place_at q k ≡ (q.first, q.second + k)
unfolding place_at
stays_in_minute q zero lt = same_place _ _ _ _ (omega arith) (omega arith)
stays_in_minute q (suc k) lt =
    let more : q.second + k + 1 < minute_length q.announced q.first = omega (arith, lt) in
    ap (next_place q.announced) (stays_in_minute q k (omega (arith, lt)))
    ∙ rw (lt-ltb (q.second + k + 1) (minute_length q.announced q.first) more) (same_place _ _ _ _ refl (omega arith))

-- only the last minute of a day can have a second 60
pub short_minute : (announced : Bool) (t : ℕ) → t % 1440 ≢ 1439 → minute_length announced t ≡ 60
short_minute true t early = rw (ne_eqb (t % 1440) 1439 early) refl
short_minute false t early = refl
