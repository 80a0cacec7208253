-- Blocks whose walks have 60 seconds in each minute: those that can be encoded are a shorter block's.
use Rattle.std.proofs.Common.{◌≡◌, ℕ, ◌+◌, ◌-◌, ◌/◌, ◌%◌, ◌<◌, ◌≤◌, ◌↔◌, min, refl, sym, ap, ◌∙◌, subst, arith}
use Rattle.std.proofs.Math.Nat.{min-le_left, min-le_right, le-min, min-eq_right}
use Rattle.signal_base.specs.declared.station.Station.{Station}
use Rattle.signal_base.specs.declared.window.Window.{Window}
use Rattle.definitions.specs.declared.sequence.Sequence.{Sequence}
use Rattle.definitions.specs.declared.block.Block.{Block}
use Rattle.definitions.specs.time.Calendar.{minute_length}
use Rattle.definitions.specs.codes.Allowed.{CanBeEncoded}
use Rattle.definitions.specs.sequences.Walks.{IsWalkable, place_at}
use Rattle.definitions.specs.answers.Blocks.{HasWalk, IsBlock, IsIn, IsUnion, first_of, span_end}
use Rattle.minute_parts.specs.Unions.{IsUnionOver}
use Rattle.minute_parts.specs.Walks.{HasRegularWalks, reach}
use Rattle.minute_parts.proofs.WalkLaws.{unions, walkable}
use Rattle.walk_costs.proofs.PlaceLaws.{nominal, plain_place}
use Rattle.field_tables.specs.Blocks.{HasShortWalks}

pub ends_no_later : (hi end to : ℕ) → hi ≡ min end to → (hi ≤ end) × (hi ≤ to)
ends_no_later hi end to is = (omega (arith, is, min-le_left end to), omega (arith, is, min-le_right end to))

is_least : (hi end : ℕ) → hi ≤ end → hi ≡ min end hi
is_least hi end le = sym (min-eq_right le)

module _ (window : Window) (b : Block) (block : IsBlock window b) (end : ℕ) (ends : (t : ℕ) → t < end ↔ CanBeEncoded window.stations t)
    (regular : HasShortWalks window b) (slots : 1 ≤ window.seconds) (hi : ℕ) (is : hi ≡ min b.hi (end - reach window b)) where
  -- what is left of the block, and the window that it is a block of
  abbrev cut : Block
  cut = record { announced = b.announced; second = b.second; span = b.span; lo = b.lo; hi = hi }

  abbrev its : Window
  its = record { stations = window.stations; start = window.start; phase = window.phase; seconds = window.seconds; from = b.lo; to = hi }

  not_later : (hi ≤ b.hi) × (hi ≤ end - reach window b)
  not_later = ends_no_later hi b.hi (end - reach window b) is

  block_ends : (b.hi ≤ span_end b.span b.lo) × (b.hi ≤ window.to)
  block_ends = ends_no_later b.hi (span_end b.span b.lo) window.to block.ends

  -- a walkable sequence of the block is one of those that are left
  in_cut : (q : Sequence) → IsIn b q → IsWalkable window q → IsIn cut q
  in_cut q inside walks =
      let last : ℕ = window.seconds - 1 in
      let short = λ (t : ℕ) (ge : q.first ≤ t) (le : t ≤ q.first + (q.second + window.seconds - 1) / 60).
      ap (λ a. minute_length a t) inside.announced ∙ regular.short t (omega (arith, ge, inside.not_before)) (omega (arith, le, inside.before_end, inside.second)) in
      let place : place_at q last ≡ plain_place q.first (q.second + last) =
      nominal q window.seconds (omega (arith, regular.second, inside.second)) short last (omega (arith, slots)) in
      let encoded = subst (λ (p : ℕ × ℕ). CanBeEncoded window.stations p.0) place (walks.encoded last (omega (arith, slots))) in
      let before : q.first + (q.second + last) / 60 < end = (ends (q.first + (q.second + last) / 60)).1 encoded in
      let early : q.first < end - reach window b = omega (arith, before, inside.second, slots) in
      let least : q.first + 1 ≤ min b.hi (end - reach window b) = le-min (omega (arith, inside.before_end)) (omega (arith, early)) in
      record { announced = inside.announced; second = inside.second; not_before = inside.not_before; before_end = omega (arith, least, is) }

  pub no_walk : hi ≤ b.lo → ¬ (HasWalk window b)
  no_walk none = λ h. let inside = in_cut h.0 h.1 h.2 in omega (arith, none, inside.before_end, inside.not_before)

  module _ (some : b.lo < hi) where
    regular_cut : HasRegularWalks its cut
    regular_cut = record {
      second = regular.second;
      short = λ t ge lt. regular.short t ge (omega (arith, lt, not_later.0));
      encoded = λ t ge lt. (ends t).0 (omega (arith, lt, not_later.1, some));
    }

    cut_block : IsBlock its cut
    cut_block = record {
      second = block.second;
      not_empty = some;
      not_before = omega arith;
      begins = λ t ge lt. absurd (omega (arith, ge, lt));
      ends = is_least hi (span_end b.span b.lo) (omega (arith, not_later.0, block_ends.0));
    }

    walks_in : (q : Sequence) → IsIn cut q → IsWalkable its q
    walks_in q inside = walkable its cut regular_cut q cut_block inside

    walks : (q : Sequence) → IsIn cut q → IsWalkable window q
    walks q inside =
        let there = walks_in q inside in
        record {
          not_before = omega (arith, block.not_before, inside.not_before);
          before_end = omega (arith, inside.before_end, not_later.0, block_ends.1);
          second = there.second;
          encoded = there.encoded;
        }

    within : (q : Sequence) → IsIn cut q → IsIn b q
    within q inside = record {
      announced = inside.announced;
      second = inside.second;
      not_before = inside.not_before;
      before_end = omega (arith, inside.before_end, not_later.0);
    }

    pub has_walk : HasWalk window b
    has_walk =
        let first : IsIn cut (first_of b) = record { announced = refl; second = refl; not_before = omega arith; before_end = some } in
        (first_of b, within (first_of b) first, walks (first_of b) first)

    -- a union of the block is one of the minutes that are left
    pub union_over : (station : Station) (k set : ℕ) → k < window.seconds → IsUnion window b station k set
        → IsUnionOver station b.announced (b.lo + (b.second + k) / 60) (hi + (b.second + k) / 60) ((b.second + k) % 60) set
    union_over station k set lt u =
        (unions its cut regular_cut cut_block station k lt set).0 (record {
          byte = u.byte;
          each = λ x h. u.each x (h.0, within h.0 h.1, walks h.0 h.1, h.3);
          only = λ x has. let h = u.only x has in let inside = in_cut h.0 h.1 h.2 in (h.0, inside, walks_in h.0 inside, h.3);
        })
