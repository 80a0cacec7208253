-- How a walk goes on from second to second.
use Rattle.std.proofs.Common.{◌≡◌, ℕ, zero, suc, ◌+◌, ◌-◌, ◌<◌, ◌≤◌, Bool, true, false, ◌&&◌, nat_lt, if◌then◌else◌, refl, sym, ap, ◌∙◌, subst, add-one, arith}
use Rattle.std.proofs.lemmas.Bool.{ltb-true}
use Rattle.definitions.specs.declared.sequence.Sequence.{Sequence}
use Rattle.definitions.specs.time.Calendar.{minute_length, is_leap_end}
use Rattle.definitions.specs.sequences.Walks.{next_place, place_at}

-- a place after another: in the same minute, or at the start of the next
pub record IsNext (place next : ℕ × ℕ) : Type 0 where
  pub not_back : place.0 ≤ next.0
  pub no_leap : next.0 ≤ place.0 + 1
  pub same_minute : 0 < next.1 → next.0 ≡ place.0
  pub second : next.1 ≤ 60

some_length : (b : Bool) → (if b then 61 else 60) ≤ 61
some_length true = omega arith
some_length false = omega arith

next_by : (place : ℕ × ℕ) (n : ℕ) (b : Bool) → n ≤ 61 → nat_lt (place.1 + 1) n ≡ b
    → IsNext place (if b then (place.0, place.1 + 1) else (place.0 + 1, 0))
next_by place n true few e =
    let more = ltb-true _ _ e in
    record { not_back = omega arith; no_leap = omega arith; same_minute = λ _. refl; second = omega arith }
next_by place n false few e =
    record { not_back = omega arith; no_leap = omega arith; same_minute = λ h. absurd (omega (arith, h)); second = omega arith }

pub IsNext-next_place : (announced : Bool) (place : ℕ × ℕ) → IsNext place (next_place announced place)
IsNext-next_place announced place =
    next_by place (minute_length announced place.0) _ (some_length (announced && is_leap_end place.0)) refl

pub place_at-zero : (q : Sequence) → place_at q 0 ≡ (q.first, q.second)
unfolding place_at
place_at-zero q = refl

pub place_at-more : (q : Sequence) (k : ℕ) → place_at q (k + 1) ≡ next_place q.announced (place_at q k)
unfolding place_at
place_at-more q k = rw add-one refl

-- a step of a loop that walks
pub walked_on : (q : Sequence) (k : ℕ) (place next : ℕ × ℕ) → place ≡ place_at q k → next ≡ next_place q.announced place
    → (next ≡ place_at q (k + 1)) × IsNext place next
walked_on q k place next here step =
    (rw place_at-more (step ∙ ap (next_place q.announced) here), subst (IsNext place) (sym step) (IsNext-next_place q.announced place))

-- the minutes of a walk rise
rises_by : (q : Sequence) (k n : ℕ) → (place_at q k).0 ≤ (place_at q (k + n)).0
rises_by q k zero =
    let same : k ≡ k + 0 = omega arith in
    let least : (place_at q k).0 ≤ (place_at q k).0 = omega arith in
    subst (λ m. (place_at q k).0 ≤ (place_at q m).0) same least
rises_by q k (suc n) =
    let next = IsNext-next_place q.announced (place_at q (k + n)) in
    let on : (place_at q k).0 ≤ (next_place q.announced (place_at q (k + n))).0 = omega (arith, rises_by q k n, next.not_back) in
    let one_more : k + n + 1 ≡ k + suc n = omega arith in
    subst (λ m. (place_at q k).0 ≤ (place_at q m).0) one_more (rw place_at-more on)

pub rises : (q : Sequence) (k n : ℕ) → k ≤ n → (place_at q k).0 ≤ (place_at q n).0
rises q k n le =
    let rest : k + (n - k) ≡ n = omega arith in
    subst (λ m. (place_at q k).0 ≤ (place_at q m).0) rest (rises_by q k (n - k))
