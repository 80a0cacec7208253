-- Unions over ranges that are put together, and layers by them.
use Rattle.std.proofs.Common.{◌≡◌, ℕ, ◌+◌, ◌<◌, ◌≤◌, Bool, List, bit_or, slice_index, sym, ◌∙◌, subst, arith}
use Rattle.signal_base.specs.declared.station.Station.{Station}
use Rattle.definitions.specs.codes.Allowed.{allowed}
use Rattle.minute_parts.specs.Layers.{AreLayers, IsSteady}
use Rattle.minute_parts.specs.Unions.{IsUnionOver}
use Rattle.minute_parts.proofs.UnionLaws.{one_union, union_between, union_joined}

module _ (station : Station) (announced : Bool) where
  -- the part has the unions over these minutes
  abbrev pub HasUnions : ℕ → ℕ → List ℕ → Type 0
  HasUnions lo hi part = (s : ℕ) → s < 60 → IsUnionOver station announced lo hi s (slice_index part s)

  -- two ranges that leave no gap
  pub joined : (a b c d : ℕ) (x y z : List ℕ) → a ≤ c → c ≤ b → b ≤ d → HasUnions a b x → HasUnions c d y
      → ((s : ℕ) → s < 60 → slice_index z s ≡ bit_or (slice_index x s) (slice_index y s)) → HasUnions a d z
  joined a b c d x y z first gap last u v both s lt =
      subst (IsUnionOver station announced a d s) (sym (both s lt))
      (union_joined (λ t. allowed station announced (t, s)) a b c d (slice_index x s) (slice_index y s) first gap last (u s lt) (v s lt))

  module _ (lo hi reach : ℕ) (first rest common : List ℕ) (is_rest : HasUnions (lo + 1) (hi + reach) rest) (is_common : HasUnions (lo + reach) (hi + 1) common) where
    -- where all minutes that are reached have the union of those that all ranges have, each range has it
    pub layers : HasUnions lo hi first → ((s : ℕ) → s < 60 → slice_index rest s ≡ slice_index common s)
        → AreLayers station announced lo hi reach (record { first = first; rest = rest })
    layers is_first same = record {
      first = is_first;
      rest = λ m s from to lt.
          union_between (λ t. allowed station announced (t, s)) (lo + reach) (hi + 1) (lo + m) (hi + m) (lo + 1) (hi + reach) (slice_index rest s)
          (omega (arith, from)) (omega (arith, to)) (omega (arith, from)) (omega (arith, to))
          (subst (IsUnionOver station announced (lo + reach) (hi + 1) s) (sym (same s lt)) (is_common s lt))
          (is_rest s lt);
    }

    -- and where a block is steady, they have
    pub same_if_steady : IsSteady station announced lo hi reach → (s : ℕ) → s < 60 → slice_index rest s ≡ slice_index common s
    same_if_steady steady s lt =
        let one = steady.same s lt in
        let f = λ (t : ℕ). allowed station announced (t, s) in
        one_union f (lo + 1) (hi + reach) (slice_index rest s) one.0 (is_rest s lt) one.1
        ∙ sym (one_union f (lo + reach) (hi + 1) (slice_index common s) one.0 (is_common s lt) one.2)
