-- The sequences of a block whose walks have 60 seconds in each minute: which are legal.
use Rattle.std.proofs.Common.{◌≡◌, ◌≢◌, ℕ, ◌+◌, ◌-◌, ◌/◌, ◌<◌, ◌≤◌, ◌↔◌, if◌then◌else◌, inl, inr, refl, Bool, true, false, length, get_or, sym, ap, ◌∙◌, subst, arith}
use Rattle.std.proofs.Math.ListN.{get_or-map}
use Rattle.std.proofs.lemmas.List.{get_or_default, length-map}
use Rattle.signal_base.specs.declared.station.Station.{Station}
use Rattle.signal_base.specs.declared.window.Window.{Window}
use Rattle.definitions.specs.declared.block.Block.{Block}
use Rattle.definitions.specs.declared.sequence.Sequence.{Sequence}
use Rattle.definitions.specs.time.Calendar.{minute_length}
use Rattle.definitions.specs.codes.Allowed.{CanBeEncoded}
use Rattle.definitions.specs.answers.Blocks.{IsBlock, first_of, span_end}
use Rattle.definitions.specs.sequences.Walks.{IsLegal, IsSequence, IsWalkable, ShowsLeap, set_at, unannounced}
use Rattle.definitions.specs.sequences.Windows.{IsWindow}
use Rattle.symbol_cost.specs.Grid.{Grid}
use Rattle.minute_parts.specs.Unions.{AreRegular}
use Rattle.minute_parts.specs.Walks.{reach}
use Rattle.walk_costs.specs.Walks.{PricedParts, ShowsAnnouncement}
use Rattle.walk_costs.proofs.PlaceLaws.{nominal}
use Rattle.plain_costs.proofs.GridLaws.{place}
use Rattle.field_tables.specs.Blocks.{AreMinutesOf, HasShortWalks}
use Rattle.field_tables.specs.Minutes.{no_walks, sequence_at}
use Rattle.field_tables.specs.Sums.{AreSums, Sums, grids_of}
use Rattle.field_tables.proofs.BlockLaws.{ends_no_later}
use Rattle.field_tables.proofs.SumLaws.{heard, slots}

-- the minutes of these walks are regular as far as the window's stations can encode them
pub regular_walks : (sums : Sums) (b : Block) → HasShortWalks sums.window b → b.hi + reach sums.window b ≤ sums.end
    → AreRegular b.announced b.lo (b.hi + reach sums.window b) sums.end
regular_walks sums b short ends = record { early = ends; short = short.short }

-- and so are those of the block's first walk
pub first_regular : (sums : Sums) (b : Block) → b.lo < b.hi → HasShortWalks sums.window b → b.hi + reach sums.window b ≤ sums.end
    → AreRegular b.announced b.lo (b.lo + 1 + reach sums.window b) sums.end
first_regular sums b some short ends = record { early = omega (arith, some, ends); short = λ t from to. short.short t from (omega (arith, to, some)) }

-- a sequence that is walkable with the announcement and without is legal where it shows that
pub legal_by_showing : (window : Window) (q : Sequence) → q.announced ≡ true → q.second < 60 → IsWalkable window q → IsWalkable window (unannounced q)
    → IsLegal window q ↔ ShowsLeap window q
legal_by_showing window q announced second walk twin = (
  λ legal. elim (legal.1 announced) [
    | inl sixty ↦ absurd (omega (arith, sixty, second))
    | inr rest ↦ elim rest [
      | inl not ↦ absurd (not twin)
      | inr shows ↦ shows
    ]
  ],
  λ shows. (walk, λ _. inr (inr shows)),
)

module _ (sums : Sums) (are : AreSums sums) where
  -- where a station shows the announcement, the window does
  pub shows_leap : (i : ℕ) (q : Sequence) → i < length sums.stations → ShowsAnnouncement (get_or sums.stations i no_walks) q → ShowsLeap sums.window q
  shows_leap i q lt shows =
      let w = get_or sums.stations i no_walks in
      let is = get_or_default sums.stations i no_walks w lt in
      (w.grid.station, shows.0, heard sums are i w lt is, omega (arith, shows.1, slots sums are i w lt is), shows.2)

  -- and where the window does, some station does
  pub some_shows : (q : Sequence) → ShowsLeap sums.window q → (j : ℕ) × (j < length sums.stations) × ShowsAnnouncement (get_or sums.stations j no_walks) q
  some_shows q shows =
      let at = place sums.window (grids_of sums.stations) are.grids shows.0 shows.2 in
      let w = get_or sums.stations at.0 no_walks in
      let long = length-map sums.stations (λ (v : PricedParts). v.grid) in
      let lt : at.0 < length sums.stations = omega (arith, at.1, long) in
      let is = get_or_default sums.stations at.0 no_walks w lt in
      let its : get_or (grids_of sums.stations) at.0 no_walks.grid ≡ w.grid = get_or-map (λ (v : PricedParts). v.grid) sums.stations at.0 no_walks in
      let station : shows.0 ≡ w.grid.station = sym (at.2 no_walks.grid) ∙ ap (λ (g : Grid). g.station) its in
      (at.0, lt, (shows.1, omega (arith, shows.3, slots sums are at.0 w lt is), subst (λ (s : Station). set_at s q shows.1 ≢ set_at s (unannounced q) shows.1) station shows.4))

  module _ (b : Block) (block : AreMinutesOf sums.window b) (walks : HasShortWalks sums.window b) (ends : b.hi + reach sums.window b ≤ sums.end)
      (t0 : ℕ) (ge : b.lo ≤ t0) (lt : t0 < b.hi) where
    walks_where : (a : Bool) → ((t : ℕ) → b.lo ≤ t → t < b.hi + reach sums.window b → minute_length a t ≡ 60)
        → IsWalkable sums.window (record { first = t0; second = b.second; announced = a })
    walks_where a short =
        let q : Sequence = record { first = t0; second = b.second; announced = a } in
        let first = short t0 ge (omega (arith, lt)) in
        let by_sixties = λ (t : ℕ) (from : t0 ≤ t) (le : t ≤ t0 + (b.second + sums.window.seconds - 1) / 60).
        short t (omega (arith, from, ge)) (omega (arith, le, lt)) in
        record {
          not_before = omega (arith, block.not_before, ge);
          before_end = omega (arith, block.no_later, lt);
          second = omega (arith, first, walks.second);
          encoded = λ k less.
              subst (λ (p : ℕ × ℕ). CanBeEncoded sums.window.stations p.0) (sym (nominal q sums.window.seconds walks.second by_sixties k less))
              ((are.end (t0 + (b.second + k) / 60)).0 (omega (arith, ends, lt, less)));
        }

    pub walkable : IsWalkable sums.window (sequence_at b t0)
    walkable = walks_where b.announced walks.short

    twin_walkable : IsWalkable sums.window (unannounced (sequence_at b t0))
    twin_walkable = walks_where false (λ t from less. refl)

    -- a sequence that isn't announced is legal
    pub legal_where_unannounced : b.announced ≡ false → IsLegal sums.window (sequence_at b t0)
    legal_where_unannounced unannounced = (walkable, λ announced. let both = sym announced ∙ unannounced in absurd cc)

    -- and one that is where it shows that
    pub legal_where_shown : b.announced ≡ true → IsLegal sums.window (sequence_at b t0) ↔ ShowsLeap sums.window (sequence_at b t0)
    legal_where_shown announced = legal_by_showing sums.window (sequence_at b t0) announced walks.second walkable twin_walkable

-- the minutes of a block of a window are some of its range
pub minutes_of : (window : Window) (b : Block) → IsBlock window b → AreMinutesOf window b
minutes_of window b block = record {
  second = block.second;
  not_empty = block.not_empty;
  not_before = block.not_before;
  no_later = (ends_no_later b.hi (span_end b.span b.lo) window.to block.ends).1;
}

-- and their sequences may be asked for
pub is_sequence : (window : Window) (b : Block) → IsWindow window → IsBlock window b → IsSequence (first_of b)
is_sequence window b is block =
    let within = ends_no_later b.hi (span_end b.span b.lo) window.to block.ends in
    record { first_minute = omega (arith, is.century, within.1, block.not_empty); first_second = by_announced b.announced block.second }
  where
    by_announced : (a : Bool) → b.second < (if a then 61 else 60) → b.second ≤ 60
    by_announced true lt = omega (arith, lt)
    by_announced false lt = omega (arith, lt)
