-- Each block has unions and a bound, or no walkable sequence: what the sequences of a block carry can be decided.
use Rattle.std.proofs.Common.{◌≡◌, ℕ, zero, suc, ◌+◌, ◌*◌, ◌-◌, ◌^◌, ◌<◌, ◌≤◌, ◌⊎◌, inl, inr, true, Option, Some, None, refl, sym, ap, ◌∙◌, subst, arith}
use Rattle.std.proofs.Math.Nat.{pow-suc}
use Rattle.std.proofs.lemmas.Bool.{cases_lt, eqb-true, eq-eqb}
use Rattle.std.proofs.lemmas.Nat.Bits.{bit_at-zero, bit_at_above, bit_at_cat_low, bit_at_cat_high}
use Rattle.std.specs.Int.{bit_at}
use Rattle.signal_base.specs.declared.station.Station.{Station}
use Rattle.signal_base.specs.declared.station.Station.TheVariants.{Dcf77, Msf, Wwvb, Jjy}
use Rattle.signal_base.specs.declared.window.Window.{Window}
use Rattle.signal_base.specs.Mask.{has_bit}
use Rattle.signal_base.specs.Waveform.{symbol_count}
use Rattle.definitions.specs.declared.sequence.Sequence.{Sequence}
use Rattle.definitions.specs.declared.block.Block.{Block}
use Rattle.definitions.specs.declared.block.Span.{Span}
use Rattle.definitions.specs.declared.block.Span.TheVariants.{Year, Day, Hour, Minute}
use Rattle.definitions.specs.codes.Vocabulary.{unscored}
use Rattle.definitions.specs.codes.Allowed.{IsSetOf}
use Rattle.definitions.specs.sequences.Walks.{place_at, set_at, IsWalkable, IsLegal}
use Rattle.definitions.specs.heard.Costs.{Costs, sequence_cost}
use Rattle.definitions.specs.answers.Blocks.{IsIn, MayCarry, IsUnion, HasWalk, IsUnionBound, IsMinuteBound, IsBound, IsBoundBy, first_of, union_cost}
use Rattle.definitions.proofs.KeyLaws.{same_sequence}
use Rattle.definitions.proofs.PlaceLaws.{within_minute}
use Rattle.definitions.proofs.SetLaws.{sent, some_symbols}
use Rattle.definitions.proofs.ExistLaws.{Decided, decide_le, decide_true, decide_both, decide_some, decide_walkable, decide_legal}

-- the numbers below n that have a property, as a set
record IsSetBelow (P : ℕ → Type 0) (n set : ℕ) : Type 0 where
  small : set < 2 ^ n
  each : (x : ℕ) → x < n → P x → has_bit set x ≡ true
  only : (x : ℕ) → has_bit set x ≡ true → P x

without : (P : ℕ → Type 0) (n set : ℕ) → IsSetBelow P n set → ¬ (P n) → IsSetBelow P (suc n) set
without P n set is not = record {
  small = omega (arith, pow-suc 2 n, is.small);
  each = λ x lt p. elim (cases_lt x n) [
    | inl below ↦ is.each x below p
    | inr here ↦ let same : x ≡ n = omega (arith, lt, here) in absurd (not (subst P same p))
  ];
  only = is.only;
}

with_it : (P : ℕ → Type 0) (n set : ℕ) → IsSetBelow P n set → P n → IsSetBelow P (suc n) (1 * 2 ^ n + set)
with_it P n set is here = record {
  small = omega (arith, pow-suc 2 n, is.small);
  each = λ x lt p. elim (cases_lt x n) [
    | inl below ↦ eq-eqb _ 1 (bit_at_cat_low 1 n set x below ∙ eqb-true (bit_at set x) 1 (is.each x below p))
    | inr over ↦
        let none : x - n ≡ 0 = omega (arith, lt, over) in
        eq-eqb _ 1 (bit_at_cat_high 1 n set x is.small over ∙ ap (bit_at 1) none)
  ];
  only = λ x has. elim (cases_lt x n) [
    | inl below ↦ is.only x (eq-eqb _ 1 (sym (bit_at_cat_low 1 n set x below) ∙ eqb-true _ 1 has))
    | inr over ↦ elim (cases_lt n x) [
      | inl above ↦ absurd (omega (arith, eqb-true _ 1 has, bit_at_cat_high 1 n set x is.small over, bit_at_above 1 1 (x - n) (omega arith) (omega (arith, above))))
      | inr under ↦ let same : n ≡ x = omega (arith, over, under) in subst P same here
    ]
  ];
}

-- there is such a set
set_below : (P : ℕ → Type 0) → ((x : ℕ) → Decided (P x)) → (n : ℕ) → (set : ℕ) × IsSetBelow P n set
set_below P decide zero = (0, record { small = omega arith; each = λ x lt p. absurd (omega arith); only = λ x has. absurd (omega (arith, bit_at-zero x, eqb-true _ 1 has)) })
set_below P decide (suc n) = more (set_below P decide n) (decide n)
  where
    more : (set : ℕ) × IsSetBelow P n set → Decided (P n) → (set : ℕ) × IsSetBelow P (suc n) set
    more before (inl here) = (1 * 2 ^ n + before.0, with_it P n before.0 before.1 here)
    more before (inr not) = (before.0, without P n before.0 before.1 not)

-- a set that may be sent is a byte
pub byte_of : (station : Station) (set : ℕ) → IsSetOf station set → set < 2 ^ 8
byte_of station set is = small station (some_symbols station set is)
  where
    small : (station : Station) → (set ≡ unscored) ⊎ ((0 < set) × (set < 2 ^ symbol_count station)) → set < 2 ^ 8
    small station (inl e) = omega (arith, e)
    small Dcf77 (inr few) = omega (arith, few.1)
    small Msf (inr few) = omega (arith, few.1)
    small Wwvb (inr few) = omega (arith, few.1)
    small Jjy (inr few) = omega (arith, few.1)

module _ (window : Window) (b : Block) where
  abbrev at : ℕ → Sequence
  at t = record { first = t; second = b.second; announced = b.announced }

  -- whether some sequence of the block has a property can be decided, minute by minute
  decide_in : (P : Sequence → Type 0) → ((q : Sequence) → Decided (P q)) → Decided ((q : Sequence) × IsIn b q × P q)
  decide_in P decide = put (decide_some (λ t. (b.lo ≤ t) × P (at t)) (λ t. decide_both (decide_le b.lo t) (decide (at t))) b.hi)
    where
      put : Decided ((t : ℕ) × (t < b.hi) × ((b.lo ≤ t) × P (at t))) → Decided ((q : Sequence) × IsIn b q × P q)
      put (inl h) = inl (at h.0, record { announced = refl; second = refl; not_before = h.2.0; before_end = h.1 }, h.2.1)
      put (inr none) = inr (λ h.
          let same = same_sequence h.0 (at h.0.first) refl h.1.second h.1.announced in
          none (h.0.first, h.1.before_end, (h.1.not_before, subst P same h.2)))

  decide_carried : (station : Station) (k x : ℕ) → Decided (MayCarry window b station k x)
  decide_carried station k x =
      put (decide_in (λ q. IsWalkable window q × (has_bit (set_at station q k) x ≡ true)) (λ q. decide_both (decide_walkable window q) (decide_true (has_bit (set_at station q k) x))))
    where
      put : Decided ((q : Sequence) × IsIn b q × (IsWalkable window q × (has_bit (set_at station q k) x ≡ true))) → Decided (MayCarry window b station k x)
      put (inl h) = inl (h.0, h.1, h.2.0, h.2.1)
      put (inr none) = inr (λ h. none (h.0, h.1, (h.2, h.3)))

  -- no symbol has a number above 7
  few_symbols : (station : Station) (k x : ℕ) → MayCarry window b station k x → x < 8
  few_symbols station k x h = elim (cases_lt x 8) [
    | inl lt ↦ lt
    | inr over ↦
        let place = place_at h.0 k in
        let small = byte_of station (set_at station h.0 k) (sent station h.0.announced place.0 place.1 (within_minute h.0 h.2.second k)) in
        absurd (omega (arith, eqb-true _ 1 h.3, bit_at_above (set_at station h.0 k) 8 x small over))
  ]

  -- there is a union of each station's sets in each slot
  pub a_union : (station : Station) (k : ℕ) → (set : ℕ) × IsUnion window b station k set
  a_union station k =
      let u = set_below (MayCarry window b station k) (decide_carried station k) 8 in
      (u.0, record { byte = u.1.small; each = λ x h. u.1.each x (few_symbols station k x h) h; only = u.1.only })

  union_bound : (costs : Costs) → (bound : Option ℕ) × IsUnionBound costs window b bound
  union_bound costs = put (decide_in (IsWalkable window) (decide_walkable window))
    where
      unions : Station → ℕ → ℕ
      unions station k = (a_union station k).0

      put : Decided (HasWalk window b) → (bound : Option ℕ) × IsUnionBound costs window b bound
      put (inl walk) = (Some (union_cost costs window unions), (walk, record { unions = unions; each = λ station k heard lt. (a_union station k).1; cost = refl }))
      put (inr none) = (None, none)

  minute_bound : (costs : Costs) → (bound : Option ℕ) × IsMinuteBound costs window b bound
  minute_bound costs = put (decide_legal window (first_of b))
    where
      put : Decided (IsLegal window (first_of b)) → (bound : Option ℕ) × IsMinuteBound costs window b bound
      put (inl legal) = (Some (sequence_cost costs window (first_of b)), (legal, refl))
      put (inr not) = (None, not)

  bound_by : (costs : Costs) (s : Span) → (bound : Option ℕ) × IsBoundBy s costs window b bound
  bound_by costs Year = union_bound costs
  bound_by costs Day = union_bound costs
  bound_by costs Hour = union_bound costs
  bound_by costs Minute = minute_bound costs

-- a block has a bound, or it has none by the definition
pub a_bound : (costs : Costs) (window : Window) (b : Block) → (bound : Option ℕ) × IsBound costs window b bound
a_bound costs window b = bound_by window b costs b.span
