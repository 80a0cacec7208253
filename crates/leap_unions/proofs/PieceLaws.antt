-- Unions of walks by the minutes in which they begin: joined, and of single walks, regular ones and none.
use Rattle.std.proofs.Common.{◌≡◌, ℕ, ◌+◌, ◌<◌, ◌≤◌, inl, inr, true, bit_or, List, slice_index, Option, Some, None, MatchOption, refl, sym, ◌∙◌, subst, arith}
use Rattle.std.proofs.lemmas.Bool.{cases_lt}
use Rattle.std.proofs.lemmas.Nat.{or_lt}
use Rattle.signal_base.specs.declared.limits.TheConstants.{MOST_SECONDS}
use Rattle.signal_base.specs.declared.station.Station.{Station}
use Rattle.signal_base.specs.declared.window.Window.{Window}
use Rattle.signal_base.specs.Mask.{has_bit}
use Rattle.definitions.specs.declared.block.Block.{Block}
use Rattle.definitions.specs.declared.sequence.Sequence.{Sequence}
use Rattle.definitions.specs.sequences.Walks.{place_at, set_at, IsWalkable}
use Rattle.definitions.specs.answers.Blocks.{HasWalk, IsIn, IsUnion}
use Rattle.definitions.proofs.BoundExistLaws.{byte_of}
use Rattle.definitions.proofs.KeyLaws.{same_sequence}
use Rattle.definitions.proofs.PlaceLaws.{within_minute}
use Rattle.definitions.proofs.SetLaws.{sent}
use Rattle.minute_parts.proofs.UnionLaws.{has_or, of_or}
use Rattle.leap_unions.specs.Pieces.{announced_from, HasWalkFrom, IsUnionFrom, AreUnionsFrom, AreOfBoth}

module _ (window : Window) (second : ℕ) where
  abbrev walk_from : ℕ → Sequence
  walk_from first = announced_from second first

  -- walks that begin in fewer minutes
  pub walk_in : (lo hi from to : ℕ) → from ≤ lo → hi ≤ to → HasWalkFrom window second lo hi → HasWalkFrom window second from to
  walk_in lo hi from to before after w = (w.0, omega (arith, w.1), omega (arith, w.2), w.3)

  walk_part : (lo mid hi : ℕ) → HasWalkFrom window second lo hi → ¬ (HasWalkFrom window second lo mid) → ¬ (HasWalkFrom window second mid hi) → ⊥
  walk_part lo mid hi w none also = elim (cases_lt w.0 mid) [
    | inl early ↦ none (w.0, w.1, early, w.3)
    | inr late ↦ also (w.0, omega (arith, late), w.2, w.3)
  ]

  module _ (station : Station) where
    joined : (lo mid hi k a b : ℕ) → lo ≤ mid → mid ≤ hi → IsUnionFrom window second lo mid station k a → IsUnionFrom window second mid hi station k b
        → IsUnionFrom window second lo hi station k (bit_or a b)
    joined lo mid hi k a b first last u v = record {
      byte = or_lt 8 a b u.byte v.byte;
      each = λ x h. elim (cases_lt h.0 mid) [
        | inl early ↦ has_or a b x (inl (u.each x (h.0, h.1, early, h.3, h.4)))
        | inr late ↦ has_or a b x (inr (v.each x (h.0, omega (arith, late), h.2, h.3, h.4)))
      ];
      only = λ x has. elim (of_or a b x has) [
        | inl here ↦ (let h = u.only x here in (h.0, h.1, omega (arith, h.2), h.3, h.4))
        | inr here ↦ (let h = v.only x here in (h.0, omega (arith, h.1), h.2, h.3, h.4))
      ];
    }

    -- minutes without a walk add nothing
    joined_none : (lo mid hi k a : ℕ) → lo ≤ mid → mid ≤ hi → IsUnionFrom window second lo mid station k a → ¬ (HasWalkFrom window second mid hi)
        → IsUnionFrom window second lo hi station k a
    joined_none lo mid hi k a first last u none = record {
      byte = u.byte;
      each = λ x h. elim (cases_lt h.0 mid) [
        | inl early ↦ u.each x (h.0, h.1, early, h.3, h.4)
        | inr late ↦ absurd (none (h.0, omega (arith, late), h.2, h.3))
      ];
      only = λ x has. (let h = u.only x has in (h.0, h.1, omega (arith, h.2), h.3, h.4));
    }

    none_joined : (lo mid hi k a : ℕ) → lo ≤ mid → mid ≤ hi → ¬ (HasWalkFrom window second lo mid) → IsUnionFrom window second mid hi station k a
        → IsUnionFrom window second lo hi station k a
    none_joined lo mid hi k a first last none u = record {
      byte = u.byte;
      each = λ x h. elim (cases_lt h.0 mid) [
        | inl early ↦ absurd (none (h.0, h.1, early, h.3))
        | inr late ↦ u.each x (h.0, omega (arith, late), h.2, h.3, h.4)
      ];
      only = λ x has. (let h = u.only x has in (h.0, omega (arith, h.1), h.2, h.3, h.4));
    }

    -- the unions of the walks that begin before some minute, and from it on
    pub unions_joined : (lo mid hi : ℕ) (a b both : Option (List ℕ)) → window.seconds ≤ MOST_SECONDS → lo ≤ mid → mid ≤ hi
        → AreUnionsFrom window second station lo mid a → AreUnionsFrom window second station mid hi b → AreOfBoth a b both
        → AreUnionsFrom window second station lo hi both
    unions_joined lo mid hi None b both few first last u v is = subst (AreUnionsFrom window second station lo hi) (sym is) (from_none b v)
      where
        from_none : (b : Option (List ℕ)) → AreUnionsFrom window second station mid hi b → AreUnionsFrom window second station lo hi b
        from_none None v = λ w. walk_part lo mid hi w u v
        from_none (Some y) v = (walk_in mid hi lo hi first (omega arith) v.0, λ k lt. none_joined lo mid hi k (slice_index y k) first last u (v.1 k lt))
    unions_joined lo mid hi (Some x) None both few first last u v is =
        subst (AreUnionsFrom window second station lo hi) (sym is)
        (walk_in lo mid lo hi (omega arith) last u.0, λ k lt. joined_none lo mid hi k (slice_index x k) first last (u.1 k lt) v)
    unions_joined lo mid hi (Some x) (Some y) None few first last u v is = absurd is
    unions_joined lo mid hi (Some x) (Some y) (Some both) few first last u v is = (
      walk_in lo mid lo hi (omega arith) last u.0,
      λ k lt. subst (IsUnionFrom window second lo hi station k) (sym (is k (omega (arith, lt, few))))
          (joined lo mid hi k (slice_index x k) (slice_index y k) first last (u.1 k lt) (v.1 k lt)),
    )

    -- no minutes
    pub unions_none : (lo : ℕ) → AreUnionsFrom window second station lo lo None
    unions_none lo = λ w. omega (arith, w.1, w.2)

    -- one walk
    pub unions_one : (t : ℕ) (sets : List ℕ) → IsWalkable window (walk_from t)
        → ((k : ℕ) → k < window.seconds → slice_index sets k ≡ set_at station (walk_from t) k)
        → AreUnionsFrom window second station t (t + 1) (Some sets)
    unions_one t sets walkable is = (
      (t, omega arith, omega arith, walkable),
      λ k lt. subst (IsUnionFrom window second t (t + 1) station k) (sym (is k lt)) (record {
        byte =
            let place = place_at (walk_from t) k in
            byte_of station (set_at station (walk_from t) k) (sent station true place.0 place.1 (within_minute (walk_from t) walkable.second k));
        each = λ x h.
            let now : h.0 ≡ t = omega (arith, h.1, h.2) in
            subst (λ u. has_bit (set_at station (walk_from u) k) x ≡ true) now h.4;
        only = λ x has. (t, omega arith, omega arith, walkable, has);
      }),
    )

    -- a minute from which no walk begins
    pub unions_not : (t : ℕ) → ¬ (IsWalkable window (walk_from t)) → AreUnionsFrom window second station t (t + 1) None
    unions_not t not_walkable = λ w.
        let now : w.0 ≡ t = omega (arith, w.1, w.2) in
        not_walkable (subst (λ u. IsWalkable window (walk_from u)) now w.3)

    -- the walks of a block
    pub unions_of_block : (b : Block) (sets : Option (List ℕ)) → b.announced ≡ true → b.second ≡ second
        → AreUnionsFrom window second station b.lo b.hi sets
        → MatchOption sets (¬ (HasWalk window b)) (λ sets. HasWalk window b × ((k : ℕ) → k < window.seconds → IsUnion window b station k (slice_index sets k)))
    unions_of_block b sets a p = by_sets sets
      where
        from_block : (q : Sequence) → IsIn b q → q ≡ walk_from q.first
        from_block q is = same_sequence q (walk_from q.first) refl (is.second ∙ p) (is.announced ∙ a)

        in_block : (first : ℕ) → b.lo ≤ first → first < b.hi → IsIn b (walk_from first)
        in_block first lo hi = record { announced = sym a; second = sym p; not_before = lo; before_end = hi }

        of_block : HasWalk window b → HasWalkFrom window second b.lo b.hi
        of_block w = (w.0.first, w.1.not_before, w.1.before_end, subst (IsWalkable window) (from_block w.0 w.1) w.2)

        by_sets : (sets : Option (List ℕ)) → AreUnionsFrom window second station b.lo b.hi sets
            → MatchOption sets (¬ (HasWalk window b)) (λ sets. HasWalk window b × ((k : ℕ) → k < window.seconds → IsUnion window b station k (slice_index sets k)))
        by_sets None none = λ w. none (of_block w)
        by_sets (Some sets) u = (
          (walk_from u.0.0, in_block u.0.0 u.0.1 u.0.2, u.0.3),
          λ k lt. record {
            byte = (u.1 k lt).byte;
            each = λ x h.
                let q = h.0 in
                let same = from_block q h.1 in
                (u.1 k lt).each x (
                  q.first,
                  h.1.not_before,
                  h.1.before_end,
                  subst (IsWalkable window) same h.2,
                  subst (λ (r : Sequence). has_bit (set_at station r k) x ≡ true) same h.3,
                );
            only = λ x has. (let h = (u.1 k lt).only x has in (walk_from h.0, in_block h.0 h.1 h.2, h.3, h.4));
          },
        )
