-- Walks that meet no minute of 61 seconds though a leap second is announced.
use Rattle.std.proofs.Common.{◌≡◌, ℕ, ◌+◌, ◌-◌, ◌*◌, ◌/◌, ◌%◌, ◌<◌, ◌≤◌, ◌↔◌, inl, inr, Bool, true, false, if◌then◌else◌, List, slice_index, Some, refl, sym, ap, ◌∙◌, subst, arith}
use Rattle.std.proofs.lemmas.Bool.{cases_lt}
use Rattle.signal_base.specs.declared.station.Station.{Station}
use Rattle.signal_base.specs.declared.station.Stations.{Stations}
use Rattle.signal_base.specs.declared.window.Window.{Window}
use Rattle.signal_base.specs.Number.{number_of}
use Rattle.signal_base.specs.Mask.{has_bit}
use Rattle.definitions.specs.declared.block.Block.{Block}
use Rattle.definitions.specs.declared.block.Span.TheVariants.{Minute}
use Rattle.definitions.specs.time.Calendar.{century_minutes, is_leap_end, minute_length}
use Rattle.definitions.specs.codes.Allowed.{allowed, has_station, CanBeEncoded}
use Rattle.definitions.specs.sequences.Walks.{place_at, set_at, IsWalkable}
use Rattle.definitions.proofs.PlaceLaws.{plain_place}
use Rattle.minute_parts.specs.Parts.{IsPartTable, PartTable}
use Rattle.minute_parts.specs.Unions.{IsUnionOver}
use Rattle.minute_parts.proofs.UnionLaws.{none_has}
use Rattle.minute_parts.proofs.WalkLaws.{places}
use Rattle.leap_unions.specs.Pieces.{announced_from, AreUnionsFrom, HasWalkFrom, IsUnionFrom}
use Rattle.leap_unions.proofs.LeapLaws.{NoLeapEnd}

pub short_minute : (u : ℕ) → is_leap_end u ≡ false → minute_length true u ≡ 60
short_minute u none = ap (λ (long : Bool). if long then 61 else 60) none

-- a station can encode what all stations of a window can
pub encoded_by_all : (p : PartTable) (stations : Stations) (station : Station) (end : ℕ) → IsPartTable p → p.station ≡ station
    → has_station stations station ≡ true → ((t : ℕ) → t < end ↔ CanBeEncoded stations t) → end ≤ p.end
encoded_by_all p stations station end table is has encoded = elim (cases_lt p.end end) [
  | inl early ↦
      let there = (encoded p.end).0 early in
      let heard : has_station stations p.station ≡ true = ap (has_station stations) is ∙ has in
      absurd (omega (arith, (table.ends p.end).1 (there.0, there.1 p.station heard)))
  | inr late ↦ omega (arith, late)
]

-- no walk begins with a second 60 of a minute that hasn't one
pub no_walk_from_60 : (window : Window) (second lo hi leap : ℕ) → second ≡ 60 → hi ≤ leap → NoLeapEnd lo leap → HasWalkFrom window second lo hi → ⊥
no_walk_from_60 window second lo hi leap is before none w =
    omega (arith, is, w.3.second, short_minute w.0 (none w.0 w.1 (omega (arith, w.2, before))))

module _ (window : Window) (second : ℕ) (small : second < 60) where
  -- how many minutes after its first one a walk reaches
  abbrev pub after_all : ℕ
  after_all = (second + window.seconds - 1) / 60

  -- where a walk is depends on no station
  abbrev silent : Window
  silent = record { stations = record { mask = 0 }; start = window.start; phase = window.phase; seconds = window.seconds; from = window.from; to = window.to }

  module _ (lo hi : ℕ) (none : NoLeapEnd lo (hi + after_all)) (fits : hi + after_all ≤ century_minutes) where
    pub regular_walk : (first k : ℕ) → lo ≤ first → first < hi → k < window.seconds → place_at (announced_from second first) k ≡ plain_place first (second + k)
    regular_walk first k from to lt =
        let b : Block = record { announced = true; second = second; span = Minute; lo = first; hi = first + 1 } in
        places silent b (record {
          second = small;
          short = λ t after before. short_minute t (none t (omega (arith, from, after)) (omega (arith, to, before)));
          encoded = λ t after before. (omega (arith, to, before, fits), λ station has. absurd (none_has (number_of station) has));
        }) (announced_from second first) k (record { announced = refl; second = refl; not_before = omega arith; before_end = omega arith }) lt

    module _ (end : ℕ) (encoded : (t : ℕ) → t < end ↔ CanBeEncoded window.stations t) where
      -- a walk that ends too late
      pub not_walkable : (first : ℕ) → lo ≤ first → first < hi → 1 ≤ window.seconds → end ≤ first + after_all → IsWalkable window (announced_from second first) → ⊥
      not_walkable first from to some late w =
          let last : ℕ = window.seconds - 1 in
          let there = regular_walk first last from to (omega arith) in
          let reached : (place_at (announced_from second first) last).0 ≡ first + after_all = ap (λ (p : ℕ × ℕ). p.0) there ∙ omega arith in
          omega (arith, late, reached, (encoded (place_at (announced_from second first) last).0).1 (w.encoded last (omega arith)))

      -- and in time
      pub regular_walkable : (first : ℕ) → lo ≤ first → first < hi → window.from ≤ first → first < window.to → first + after_all < end
          → IsWalkable window (announced_from second first)
      regular_walkable first from to after before early = record {
        not_before = after;
        before_end = before;
        second = omega (arith, small, short_minute first (none first from (omega (arith, to))));
        encoded = λ k lt.
            subst (λ (place : ℕ × ℕ). CanBeEncoded window.stations place.0) (sym (regular_walk first k from to lt))
            ((encoded (first + (second + k) / 60)).0 (omega (arith, early, lt)));
      }

      -- the unions of such walks are those of the minutes that they are in
      pub regular_unions : (station : Station) (row sets : List ℕ) → lo < hi → window.from ≤ lo → hi ≤ window.to → hi + after_all ≤ end
          → ((m s : ℕ) → m ≤ after_all → s < 60 → IsUnionOver station true (lo + m) (hi + m) s (slice_index row (60 * m + s)))
          → ((k : ℕ) → k < window.seconds → slice_index sets k ≡ slice_index row (second + k))
          → AreUnionsFrom window second station lo hi (Some sets)
      regular_unions station row sets some from to early over is = (
        (lo, omega arith, some, regular_walkable lo (omega arith) some from (omega arith) (omega arith)),
        λ k lt. union k lt,
      )
        where
          walk : (first : ℕ) → lo ≤ first → first < hi → IsWalkable window (announced_from second first)
          walk first after before = regular_walkable first after before (omega (arith, after, from)) (omega (arith, before, to)) (omega (arith, before, early))

          set_is : (first k : ℕ) → lo ≤ first → first < hi → k < window.seconds
              → set_at station (announced_from second first) k ≡ allowed station true (first + (second + k) / 60, (second + k) % 60)
          set_is first k after before lt = ap (allowed station true) (regular_walk first k after before lt)

          union : (k : ℕ) → k < window.seconds → IsUnionFrom window second lo hi station k (slice_index sets k)
          union k lt =
              let m : ℕ = (second + k) / 60 in
              let s : ℕ = (second + k) % 60 in
              let there : 60 * m + s ≡ second + k = omega arith in
              let u = over m s (omega (arith, lt)) (omega arith) in
              let here : slice_index row (60 * m + s) ≡ slice_index sets k = ap (slice_index row) there ∙ sym (is k lt) in
              subst (IsUnionFrom window second lo hi station k) here (record {
                byte = u.byte;
                each = λ x h.
                    u.each x (h.0 + m, omega (arith, h.1), omega (arith, h.2), ap (λ set. has_bit set x) (sym (set_is h.0 k h.1 h.2 lt)) ∙ h.4);
                only = λ x has.
                    let h = u.only x has in
                    let first : ℕ = h.0 - m in
                    let back : first + m ≡ h.0 = omega (arith, h.1) in
                    let after : lo ≤ first = omega (arith, h.1) in
                    let before : first < hi = omega (arith, h.1, h.2) in (
                      first,
                      after,
                      before,
                      walk first after before,
                      ap (λ set. has_bit set x) (set_is first k after before lt ∙ ap (λ t. allowed station true (t, s)) back) ∙ h.3,
                    );
              })
