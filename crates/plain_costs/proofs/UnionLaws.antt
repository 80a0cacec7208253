-- Unions of what the sequences of a block allow, minute by minute.
use Rattle.std.proofs.Common.{◌≡◌, ℕ, ◌+◌, ◌<◌, ◌≤◌, ◌^◌, ◌⊎◌, inl, inr, Bool, true, false, IsTrue, ◌↔◌, bit_or, refl, sym, subst, arith, eqb-true, eq-eqb}
use Rattle.std.proofs.lemmas.Bool.{cases_eq, cases_lt}
use Rattle.std.proofs.lemmas.Nat.{or_lt}
use Rattle.std.proofs.lemmas.Nat.Bits.{bit_at_or, bit_at-lt, bit_at-zero}
use Rattle.std.specs.Int.{bit_at}
use Rattle.signal_base.specs.declared.station.Station.{Station}
use Rattle.signal_base.specs.declared.window.Window.{Window}
use Rattle.signal_base.specs.Mask.{has_bit}
use Rattle.definitions.specs.declared.block.Block.{Block}
use Rattle.definitions.specs.declared.sequence.Sequence.{Sequence}
use Rattle.definitions.specs.sequences.Walks.{place_at, set_at, IsWalkable}
use Rattle.definitions.specs.answers.Blocks.{HasWalk, IsIn, IsUnion, MayCarry}
use Rattle.definitions.proofs.BoundExistLaws.{byte_of}
use Rattle.definitions.proofs.KeyLaws.{same_sequence}
use Rattle.definitions.proofs.PlaceLaws.{within_minute}
use Rattle.definitions.proofs.SetLaws.{sent}
use Rattle.plain_costs.specs.Unions.{sequence_from}

has_or : (a b x : ℕ) → (has_bit a x ≡ true) ⊎ (has_bit b x ≡ true) → has_bit (bit_or a b) x ≡ true
has_or a b x (inl here) = eq-eqb _ 1 (omega (arith, eqb-true (bit_at a x) 1 here, bit_at_or a b x, bit_at-lt b x))
has_or a b x (inr here) = eq-eqb _ 1 (omega (arith, eqb-true (bit_at b x) 1 here, bit_at_or a b x, bit_at-lt a x))

of_or : (a b x : ℕ) → has_bit (bit_or a b) x ≡ true → (has_bit a x ≡ true) ⊎ (has_bit b x ≡ true)
of_or a b x has = elim (cases_eq (bit_at a x) 1) [
  | inl one ↦ inl (eq-eqb _ 1 one)
  | inr other ↦ inr (eq-eqb _ 1 (omega (arith, eqb-true _ 1 has, bit_at_or a b x, bit_at-lt a x, bit_at-lt b x, other)))
]

module _ (window : Window) (b : Block) where
  -- a sequence of the block is the one from its first minute on
  from_first : (q : Sequence) → IsIn b q → q ≡ sequence_from b q.first
  from_first q is = same_sequence q (sequence_from b q.first) refl is.second is.announced

  -- no sequence of the block that begins before minute t is walkable
  abbrev pub NoneWalks : ℕ → Type 0
  NoneWalks t = (first : ℕ) → b.lo ≤ first → first < t → ¬ (IsWalkable window (sequence_from b first))

  pub none_has_walk : (t : ℕ) → NoneWalks t → b.hi ≤ t → HasWalk window b → ⊥
  none_has_walk t none end walk =
      none walk.0.first walk.1.not_before (omega (arith, walk.1.before_end, end)) (subst (IsWalkable window) (from_first walk.0 walk.1) walk.2)

  -- a test that the sequence from minute t on doesn't pass
  pub refutes : (t : ℕ) (q : Sequence) (test : Bool) → q ≡ sequence_from b t → test ≡ false → (IsTrue test ↔ IsWalkable window q) → ¬ (IsWalkable window (sequence_from b t))
  refutes t q test is off means walks = let on = means.1 (subst (IsWalkable window) (sym is) walks) in cc

  module _ (station : Station) (k : ℕ) where
    -- the set has what the sequences that begin before minute t allow, and nothing that no sequence of the block allows
    pub record IsUnitedTo (t set : ℕ) : Type 0 where
      pub byte : set < 2 ^ 8
      pub each : (x first : ℕ) → b.lo ≤ first → first < t → IsWalkable window (sequence_from b first)
          → has_bit (set_at station (sequence_from b first) k) x ≡ true → has_bit set x ≡ true
      pub only : (x : ℕ) → has_bit set x ≡ true → MayCarry window b station k x

    pub united_none : IsUnitedTo b.lo 0
    united_none = record {
      byte = omega arith;
      each = λ x first lo before. absurd (omega (arith, lo, before));
      only = λ x has. absurd (omega (arith, eqb-true (bit_at 0 x) 1 has, bit_at-zero x));
    }

    -- the set that a walk has in a slot is a byte
    byte_of_walk : (q : Sequence) → IsWalkable window q → set_at station q k < 2 ^ 8
    byte_of_walk q walkable =
        let place = place_at q k in
        byte_of station (set_at station q k) (sent station q.announced place.0 place.1 (within_minute q walkable.second k))

    -- one more sequence
    pub united_with : (t set : ℕ) → b.lo ≤ t → t < b.hi → IsWalkable window (sequence_from b t) → IsUnitedTo t set
        → IsUnitedTo (t + 1) (bit_or set (set_at station (sequence_from b t) k))
    united_with t set lo hi walkable before = record {
      byte = or_lt 8 set (set_at station (sequence_from b t) k) before.byte (byte_of_walk (sequence_from b t) walkable);
      each = λ x first not_before below walks has. elim (cases_lt first t) [
        | inl earlier ↦ has_or set (set_at station (sequence_from b t) k) x (inl (before.each x first not_before earlier walks has))
        | inr late ↦
            let now : first ≡ t = omega (arith, below, late) in
            has_or set (set_at station (sequence_from b t) k) x (inr (subst (λ u. has_bit (set_at station (sequence_from b u) k) x ≡ true) now has))
      ];
      only = λ x has. elim (of_or set (set_at station (sequence_from b t) k) x has) [
        | inl old ↦ before.only x old
        | inr new ↦ (sequence_from b t, record { announced = refl; second = refl; not_before = lo; before_end = hi }, walkable, new)
      ];
    }

    -- a sequence that isn't walkable
    pub united_without : (t set : ℕ) → ¬ (IsWalkable window (sequence_from b t)) → IsUnitedTo t set → IsUnitedTo (t + 1) set
    united_without t set not_walkable before = record {
      byte = before.byte;
      each = λ x first not_before below walks has. elim (cases_lt first t) [
        | inl earlier ↦ before.each x first not_before earlier walks has
        | inr late ↦
            let now : first ≡ t = omega (arith, below, late) in
            absurd (not_walkable (subst (λ u. IsWalkable window (sequence_from b u)) now walks))
      ];
      only = before.only;
    }

    pub united_all : (t set : ℕ) → b.hi ≤ t → IsUnitedTo t set → IsUnion window b station k set
    united_all t set end united = record {
      byte = united.byte;
      each = λ x carried.
          let q = carried.0 in
          let same = from_first q carried.1 in
          united.each x q.first carried.1.not_before (omega (arith, carried.1.before_end, end)) (subst (IsWalkable window) same carried.2)
          (subst (λ (r : Sequence). has_bit (set_at station r k) x ≡ true) same carried.3);
      only = united.only;
    }
