-- The union and the bound of a block of two minutes, each of whose walks stays in its minute.
use Rattle.std.proofs.Common.{◌≡◌, ℕ, ◌+◌, ◌^◌, ◌<◌, ◌⊎◌, inl, inr, Bool, true, false, Some, refl, sym, ap, ◌∙◌, subst, arith}
use Rattle.std.proofs.lemmas.Bool.{cases_eq, eqb-true, eq-eqb}
use Rattle.std.proofs.lemmas.Nat.{or_lt}
use Rattle.std.proofs.lemmas.Nat.Bits.{bit_at_or, bit_at-lt}
use Rattle.std.specs.Int.{bit_at}
use Rattle.std.specs.Int.Bits.{bit_or}
use Rattle.signal_base.specs.declared.station.Station.{Station}
use Rattle.signal_base.specs.declared.station.Station.TheVariants.{Dcf77, Msf, Wwvb, Jjy}
use Rattle.signal_base.specs.declared.window.Window.{Window}
use Rattle.signal_base.specs.Mask.{has_bit}
use Rattle.definitions.specs.declared.sequence.Sequence.{Sequence}
use Rattle.definitions.specs.declared.block.Block.{Block}
use Rattle.definitions.specs.declared.block.Span.TheVariants.{Hour}
use Rattle.definitions.specs.time.Calendar.{day_at, minute_length}
use Rattle.definitions.specs.time.Summer.{season_at}
use Rattle.definitions.specs.codes.Allowed.{allowed, has_station, wwvb_facts}
use Rattle.definitions.specs.codes.Wwvb.{wwvb_second}
use Rattle.definitions.specs.declared.wwvb.WwvbFacts.{WwvbFacts}
use Rattle.definitions.specs.sequences.Walks.{place_at, set_at, IsWalkable, IsLegal}
use Rattle.definitions.specs.answers.Blocks.{IsIn, MayCarry, IsUnion, IsBound, union_cost}
use Rattle.definitions.specs.heard.Costs.{Costs}
use Rattle.definitions.specs.examples.Sequences.{window_of}
use Rattle.definitions.proofs.KeyLaws.{same_sequence}
use Rattle.definitions.proofs.PlaceLaws.{within_minute, short_minute}
use Rattle.definitions.proofs.MinuteLaws.{early, from_minute, set, walkable}
use Rattle.definitions.proofs.SetLaws.{sent}
use Rattle.definitions.proofs.BoundExistLaws.{byte_of}

has_or : (a b x : ℕ) → (has_bit a x ≡ true) ⊎ (has_bit b x ≡ true) → has_bit (bit_or a b) x ≡ true
has_or a b x (inl here) = eq-eqb _ 1 (omega (arith, eqb-true (bit_at a x) 1 here, bit_at_or a b x, bit_at-lt b x))
has_or a b x (inr here) = eq-eqb _ 1 (omega (arith, eqb-true (bit_at b x) 1 here, bit_at_or a b x, bit_at-lt a x))

of_or : (a b x : ℕ) → has_bit (bit_or a b) x ≡ true → (has_bit a x ≡ true) ⊎ (has_bit b x ≡ true)
of_or a b x has = elim (cases_eq (bit_at a x) 1) [
  | inl one ↦ inl (eq-eqb _ 1 one)
  | inr other ↦ inr (eq-eqb _ 1 (omega (arith, eqb-true _ 1 has, bit_at_or a b x, bit_at-lt a x, bit_at-lt b x, other)))
]

-- the pair of minutes from lo on, well before the end of the first day
module _ (mask lo : ℕ) (announced : Bool) (soon : lo < 1438) where
  abbrev pub pair : Block
  pair = record { announced = announced; second = 0; span = Hour; lo = lo; hi = lo + 2 }

  abbrev pub over : Window
  over = window_of mask lo (lo + 2)

  abbrev first : Sequence
  first = from_minute announced lo

  abbrev other : Sequence
  other = from_minute announced (lo + 1)

  first_short : minute_length announced lo ≡ 60
  first_short = short_minute announced lo (λ e. omega (arith, e, soon))

  other_short : minute_length announced (lo + 1) ≡ 60
  other_short = short_minute announced (lo + 1) (λ e. omega (arith, e, soon))

  first_walks : IsWalkable over first
  first_walks = walkable announced lo first_short mask lo (lo + 2) (omega arith) (omega arith) (early over.stations lo (omega (arith, soon)))

  other_walks : IsWalkable over other
  other_walks = walkable announced (lo + 1) other_short mask lo (lo + 2) (omega arith) (omega arith) (early over.stations (lo + 1) (omega (arith, soon)))

  has_first : IsIn pair first
  has_first = record { announced = refl; second = refl; not_before = omega arith; before_end = omega arith }

  has_other : IsIn pair other
  has_other = record { announced = refl; second = refl; not_before = omega arith; before_end = omega arith }

  -- its sequences are these two
  one_of_them : (q : Sequence) → IsIn pair q → (q ≡ first) ⊎ (q ≡ other)
  one_of_them q is = elim (cases_eq q.first lo) [
    | inl e ↦ inl (same_sequence q first e is.second is.announced)
    | inr apart ↦ inr (same_sequence q other (omega (arith, apart, is.not_before, is.before_end)) is.second is.announced)
  ]

  abbrev pub either_set : Station → ℕ → ℕ
  either_set station k = bit_or (allowed station announced (lo, k)) (allowed station announced (lo + 1, k))

  byte : (q : Sequence) → IsWalkable over q → (station : Station) (k : ℕ) → set_at station q k < 2 ^ 8
  byte q walks station k =
      let place = place_at q k in
      byte_of station (set_at station q k) (sent station q.announced place.0 place.1 (within_minute q walks.second k))

  -- the union of their sets
  pub pair_union : (station : Station) (k : ℕ) → k < 60 → IsUnion over pair station k (either_set station k)
  pair_union station k lt =
      subst (IsUnion over pair station k) (ap (λ a. bit_or a (set_at station other k)) (set announced lo first_short station k lt)
      ∙ ap (bit_or (allowed station announced (lo, k))) (set announced (lo + 1) other_short station k lt)) plain
    where
      carried : (x : ℕ) (q : Sequence) → has_bit (set_at station q k) x ≡ true → (q ≡ first) ⊎ (q ≡ other)
          → (has_bit (set_at station first k) x ≡ true) ⊎ (has_bit (set_at station other k) x ≡ true)
      carried x q has (inl e) = inl (subst (λ q. has_bit (set_at station q k) x ≡ true) e has)
      carried x q has (inr e) = inr (subst (λ q. has_bit (set_at station q k) x ≡ true) e has)

      by_one : (x : ℕ) → (has_bit (set_at station first k) x ≡ true) ⊎ (has_bit (set_at station other k) x ≡ true) → MayCarry over pair station k x
      by_one x (inl has) = (first, has_first, first_walks, has)
      by_one x (inr has) = (other, has_other, other_walks, has)

      plain : IsUnion over pair station k (bit_or (set_at station first k) (set_at station other k))
      plain = record {
        byte = or_lt 8 (set_at station first k) (set_at station other k) (byte first first_walks station k) (byte other other_walks station k);
        each = λ x may. has_or (set_at station first k) (set_at station other k) x (carried x may.0 may.3 (one_of_them may.0 may.1));
        only = λ x has. by_one x (of_or (set_at station first k) (set_at station other k) x has);
      }

  -- and what the unions cost bounds the pair
  pub pair_bound : (costs : Costs) → IsBound costs over pair (Some (union_cost costs over either_set))
  pair_bound costs = ((first, has_first, first_walks), record { unions = either_set; each = λ station k heard lt. pair_union station k lt; cost = refl })

-- in January WWVB sends the same with a leap second announced and without
same_facts : wwvb_facts true 700 ≡ wwvb_facts false 700
unfolding day_at season_at
same_facts = refl

hidden : (station : Station) (k : ℕ) → has_station (window_of 4 700 702).stations station ≡ true → k < 60
    → set_at station (from_minute true 700) k ≡ set_at station (from_minute false 700) k
hidden Dcf77 k heard lt = absurd cc
hidden Msf k heard lt = absurd cc
hidden Wwvb k heard lt =
    set true 700 (short_minute true 700 (λ e. omega (arith, e))) Wwvb k lt ∙ ap (λ (f : WwvbFacts). wwvb_second f k) same_facts ∙ sym (set false 700 refl Wwvb k lt)
hidden Jjy k heard lt = absurd cc

pub not_shown : ¬ (IsLegal (window_of 4 700 702) (from_minute true 700))
not_shown legal = elim (legal.1 refl) [
  | inl e ↦ omega (arith, e)
  | inr rest ↦ elim rest [
    | inl none ↦ none (walkable false 700 refl 4 700 702 (omega arith) (omega arith) (early (window_of 4 700 702).stations 700 (omega arith)))
    | inr shows ↦ shows.4 (hidden shows.0 shows.1 shows.2 shows.3)
  ]
]
