-- Rows: made from one walk, from regular ones, joined, and what they say of a window.
use Rattle.std.proofs.Common.{◌≡◌, ℕ, ◌+◌, ◌-◌, ◌*◌, ◌/◌, ◌%◌, ◌<◌, ◌≤◌, ◌↔◌, Bool, true, false, if◌then◌else◌, bit_or, List, slice_index, Some, refl, sym, ap, ◌∙◌, subst, arith, zero-add}
use Rattle.signal_base.specs.declared.limits.TheConstants.{MOST_SECONDS}
use Rattle.signal_base.specs.declared.station.Station.{Station}
use Rattle.signal_base.specs.declared.window.Window.{Window}
use Rattle.signal_base.specs.Mask.{has_bit}
use Rattle.definitions.specs.time.Calendar.{century_minutes, is_leap_end}
use Rattle.definitions.specs.codes.Allowed.{allowed, CanBeEncoded}
use Rattle.definitions.specs.sequences.Walks.{place_at, set_at, IsWalkable}
use Rattle.definitions.proofs.BoundExistLaws.{byte_of}
use Rattle.definitions.proofs.PlaceLaws.{within_minute}
use Rattle.definitions.proofs.SetLaws.{sent}
use Rattle.minute_parts.specs.Unions.{IsUnionOf, IsUnionOver}
use Rattle.minute_parts.proofs.UnionLaws.{union_joined, union_moved, union_none, union_one}
use Rattle.leap_unions.specs.declared.kept.Kept.{Kept}
use Rattle.leap_unions.specs.declared.rows.TheConstants.{PLACES}
use Rattle.leap_unions.specs.Kept.{IsKept, IsRow, row_reach}
use Rattle.leap_unions.specs.Pieces.{announced_from, AreUnionsFrom, IsUnionFrom}
use Rattle.leap_unions.proofs.LeapLaws.{NoLeapEnd}
use Rattle.leap_unions.proofs.NominalLaws.{from_second, goes_on, minutes_on, reached}
use Rattle.leap_unions.proofs.RegularLaws.{regular_walk}

some_seconds : (b : Bool) → 0 < (if b then 61 else 60)
some_seconds true = omega arith
some_seconds false = omega arith

-- what a walk carries in its second i
abbrev carried : Station → ℕ → ℕ → ℕ
carried station i first = set_at station (announced_from 0 first) i

byte : (station : Station) (i first : ℕ) → carried station i first < 256
byte station i first =
    let q = announced_from 0 first in
    let place = place_at q i in
    byte_of station (set_at station q i) (sent station true place.0 place.1 (within_minute q (some_seconds (is_leap_end first)) i))

module _ (station : Station) (seconds : ℕ) where
  -- of no minutes
  pub row_none : (lo hi : ℕ) (row : List ℕ) → hi ≡ lo → ((i : ℕ) → slice_index row i ≡ 0) → IsRow station seconds lo hi row
  row_none lo hi row same none = λ i lt.
      subst (λ h. IsUnionOf (carried station i) lo h (slice_index row i)) (sym same)
      (subst (IsUnionOf (carried station i) lo lo) (sym (none i)) (union_none (carried station i) lo))

  pub row_joined : (lo mid hi : ℕ) (a b row : List ℕ) → seconds ≤ MOST_SECONDS → lo ≤ mid → mid ≤ hi → IsRow station seconds lo mid a → IsRow station seconds mid hi b
      → ((i : ℕ) → i < PLACES → slice_index row i ≡ bit_or (slice_index a i) (slice_index b i)) → IsRow station seconds lo hi row
  row_joined lo mid hi a b row few first last u v is = λ i lt.
      subst (IsUnionOf (carried station i) lo hi) (sym (is i (omega (arith, lt, few))))
      (union_joined (carried station i) lo mid mid hi (slice_index a i) (slice_index b i) first (omega arith) last (u i lt) (v i lt))

  pub kept_joined : (a b joined : Kept) → seconds ≤ MOST_SECONDS → a.lo ≤ a.hi → IsRow station seconds a.lo a.hi a.row → IsKept station seconds b → a.hi ≡ b.lo
      → joined.lo ≡ a.lo → joined.hi ≡ b.hi
      → ((i : ℕ) → i < PLACES → slice_index joined.row i ≡ bit_or (slice_index a.row i) (slice_index b.row i)) → IsKept station seconds joined
  kept_joined a b joined few order u is gapless lo hi row = record {
    some = omega (arith, lo, hi, order, gapless, is.some);
    century = omega (arith, hi, is.century);
    row =
        subst (λ n. IsRow station seconds n joined.hi joined.row) (sym lo)
        (subst (λ n. IsRow station seconds a.lo n joined.row) (sym hi)
        (row_joined a.lo b.lo b.hi a.row b.row joined.row few (omega (arith, order, gapless)) (omega (arith, is.some))
        (subst (λ n. IsRow station seconds a.lo n a.row) gapless u) is.row row));
  }

  -- what the walk from a minute carries is told of it by that from the first one
  pub later_walk : (first m reach : ℕ) (tape : List ℕ) → m ≤ reach → NoLeapEnd first (first + reach)
      → ((k : ℕ) → k < 60 * reach + seconds + 59 → slice_index tape k ≡ set_at station (announced_from 0 first) k)
      → (k : ℕ) → k < seconds + 59 → slice_index tape (60 * m + k) ≡ set_at station (announced_from 0 (first + m)) k
  later_walk first m reach tape le none walk k lt =
      walk (60 * m + k) (omega (arith, lt, le))
      ∙ ap (allowed station true)
      (goes_on (announced_from 0 first) (announced_from 0 (first + m)) (60 * m) k refl (minutes_on first m (λ t from to. none t from (omega (arith, to, le)))))

  -- one more minute, by the tape that has what the walk from it carries
  pub row_more : (first m : ℕ) (tape before row : List ℕ) → seconds ≤ MOST_SECONDS
      → ((i : ℕ) → i < seconds + 59 → slice_index tape (60 * m + i) ≡ carried station i (first + m))
      → ((i : ℕ) → i < PLACES → slice_index row i ≡ bit_or (slice_index before i) (slice_index tape (60 * m + i)))
      → IsRow station seconds first (first + m) before → IsRow station seconds first (first + (m + 1)) row
  row_more first m tape before row few walk is u = λ i lt.
      let told : slice_index tape (60 * m + i) ≡ carried station i (first + m) = walk i lt in
      let one : IsUnionOf (carried station i) (first + m) (first + m + 1) (slice_index tape (60 * m + i)) =
      subst (IsUnionOf (carried station i) (first + m) (first + m + 1)) (sym told) (union_one (carried station i) (first + m) (byte station i (first + m))) in
      let next : first + m + 1 ≡ first + (m + 1) = omega arith in
      subst (λ h. IsUnionOf (carried station i) first h (slice_index row i)) next
      (subst (IsUnionOf (carried station i) first (first + m + 1)) (sym (is i (omega (arith, lt, few))))
      (union_joined (carried station i) first (first + m) (first + m) (first + m + 1) (slice_index before i) (slice_index tape (60 * m + i))
      (omega arith) (omega arith) (omega arith) (u i lt) one))

  -- of walks that meet no leap second
  pub row_regular : (lo hi : ℕ) (row : List ℕ) → lo < hi → NoLeapEnd lo (hi + row_reach seconds) → hi + row_reach seconds ≤ century_minutes
      → ((m s : ℕ) → m ≤ row_reach seconds → s < 60 → IsUnionOver station true (lo + m) (hi + m) s (slice_index row (60 * m + s)))
      → IsRow station seconds lo hi row
  row_regular lo hi row some none fits over = λ i lt.
      let m : ℕ = i / 60 in
      let s : ℕ = i % 60 in
      let there : 60 * m + s ≡ i = omega arith in
      let n : ℕ = hi - lo in
      let here : hi ≡ lo + n = omega (arith, some) in
      let ends : hi + m ≡ lo + m + n = omega (arith, some) in
      let u = over m s (omega (arith, lt)) (omega arith) in
      subst (IsUnionOf (carried station i) lo hi) (ap (slice_index row) there)
      (subst (λ h. IsUnionOf (carried station i) lo h (slice_index row (60 * m + s))) (sym here)
      (union_moved (λ t. allowed station true (t, s)) (carried station i) (lo + m) lo n (slice_index row (60 * m + s))
      (λ j before.
      let order : lo + m + j ≡ lo + j + m = omega arith in
      ap (λ t. allowed station true (t, s)) order
      ∙ sym (ap (allowed station true) (regular_walk window 0 (omega arith) lo hi (λ t from to. none t from (omega (arith, to))) (omega (arith, fits)) (lo + j) i (omega arith) (omega (arith, before, some)) lt
      ∙ ap (λ (p : ℕ). (lo + j + p / 60, p % 60)) (zero-add i))))
      (subst (λ h. IsUnionOf (λ t. allowed station true (t, s)) (lo + m) h (slice_index row (60 * m + s))) ends u)))
    where
      window : Window
      window = record { stations = record { mask = 0 }; start = 0; phase = 0; seconds = seconds + 59; from = 0; to = 0 }

-- what a row says of a window
pub kept_unions : (window : Window) (second : ℕ) (station : Station) (kept : Kept) (end : ℕ) (sets : List ℕ) → second < 60
    → IsKept station window.seconds kept → window.from ≤ kept.lo → kept.hi ≤ window.to → kept.hi + row_reach window.seconds ≤ end
    → ((t : ℕ) → t < end ↔ CanBeEncoded window.stations t)
    → ((k : ℕ) → k < window.seconds → slice_index sets k ≡ slice_index kept.row (second + k))
    → AreUnionsFrom window second station kept.lo kept.hi (Some sets)
kept_unions window second station kept end sets small is from to early encoded are = (
  (kept.lo, omega arith, is.some, walk kept.lo (omega arith) is.some),
  λ k lt. (
      let set_is = λ (first : ℕ). ap (allowed station true) (from_second first second k small) in
      let u = is.row (second + k) (omega (arith, small, lt)) in
      subst (IsUnionFrom window second kept.lo kept.hi station k) (sym (are k lt)) (record {
        byte = u.byte;
        each = λ x h. u.each x (h.0, h.1, h.2, ap (λ set. has_bit set x) (set_is h.0) ∙ h.4);
        only = λ x has. (let h = u.only x has in (h.0, h.1, h.2, walk h.0 h.1 h.2, ap (λ set. has_bit set x) (sym (set_is h.0)) ∙ h.3));
      })
      ),
)
  where
    enough : (b : Bool) → 60 ≤ (if b then 61 else 60)
    enough true = omega arith
    enough false = omega arith

    walk : (first : ℕ) → kept.lo ≤ first → first < kept.hi → IsWalkable window (announced_from second first)
    walk first after before = record {
      not_before = omega (arith, after, from);
      before_end = omega (arith, before, to);
      second = omega (arith, small, enough (is_leap_end first));
      encoded = λ k lt.
          (encoded (place_at (announced_from second first) k).0).0 (omega (arith, reached second first k, lt, small, before, early));
    }
