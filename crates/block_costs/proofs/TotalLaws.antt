-- What a sequence costs, from what the unions of its minutes cost and what DUT1 adds, where its walk has 60 seconds in each
-- minute.
use Rattle.std.proofs.Common.{◌≡◌, ℕ, ◌+◌, ◌/◌, ◌%◌, ◌<◌, ◌≤◌, inl, inr, Bool, true, false, ◌==◌, length, sym, ap, subst, arith}
use Rattle.std.proofs.lemmas.Nat.{pow_below}
use Rattle.signal_base.specs.declared.station.Station.{Station}
use Rattle.definitions.specs.declared.sequence.Sequence.{Sequence}
use Rattle.definitions.specs.time.Calendar.{minute_length}
use Rattle.definitions.specs.codes.Allowed.{IsSetOf, allowed}
use Rattle.definitions.specs.sequences.Walks.{set_at}
use Rattle.definitions.proofs.SetLaws.{sent}
use Rattle.slot_columns.proofs.SetLaws.{few_symbols}
use Rattle.minute_parts.specs.Unions.{IsUnionOf, IsUnionOver}
use Rattle.minute_parts.proofs.UnionLaws.{union_one}
use Rattle.walk_costs.specs.Dates.{IsAdded}
use Rattle.walk_costs.specs.Walks.{AreSmall, PricedParts, last_minute}
use Rattle.walk_costs.proofs.PlaceLaws.{but_last, nominal}
use Rattle.walk_costs.proofs.TotalLaws.{IsTotal, total as total_of_sets}
use Rattle.block_costs.specs.Blocks.{AreUnionsOfWalks, unions_cost}

-- a set is a byte
set_byte : (station : Station) (set : ℕ) → IsSetOf station set → set < 256
set_byte station set (inl not_scored) = omega (arith, not_scored)
set_byte station set (inr (inl either)) = omega (arith, either)
set_byte station set (inr (inr one)) =
    let few : one.0 < 8 = omega (arith, one.1, few_symbols station) in
    omega (arith, one.2, pow_below one.0 8 few)

module _ (w : PricedParts) (small : AreSmall w.grid) (announced : Bool) (p t0 : ℕ) (second : p < 60)
    (short : (t : ℕ) → t0 ≤ t → t ≤ last_minute w p t0 → minute_length announced t ≡ 60) where
  abbrev n : ℕ
  n = length w.grid.rows

  abbrev q : Sequence
  q = record { first = t0; second = p; announced = announced }

  -- the set of a slot is the union of the one minute in which it lies
  pub one_minute : AreUnionsOfWalks w.grid.station announced p t0 (t0 + 1) n (set_at w.grid.station q)
  one_minute = λ k lt.
      let st = w.grid.station in
      let m : ℕ = (p + k) / 60 in
      let s : ℕ = (p + k) % 60 in
      let sets = λ (t : ℕ). allowed st announced (t, s) in
      let here : set_at st q k ≡ sets (t0 + m) = ap (allowed st announced) (nominal q n second short k lt) in
      let length_is = short (t0 + m) (omega arith) (omega (arith, lt)) in
      let byte = set_byte st (sets (t0 + m)) (sent st announced (t0 + m) s (omega (arith, length_is))) in
      let ends : t0 + m + 1 ≡ t0 + 1 + m = omega arith in
      subst (IsUnionOver st announced (t0 + m) (t0 + 1 + m) s) (sym here)
      (subst (λ hi. IsUnionOf sets (t0 + m) hi (sets (t0 + m))) ends (union_one sets (t0 + m) byte))

  -- so the cost of these unions, and what DUT1 adds, are the cost of the sequence
  pub total : (cost added : ℕ) → ((sets : ℕ → ℕ) → AreUnionsOfWalks w.grid.station announced p t0 (t0 + 1) n sets → cost ≡ unions_cost w.grid sets)
      → ((last_minute w p t0 / 1440 == t0 / 1440) ≡ true → IsAdded w.grid p added)
      → ((last_minute w p t0 / 1440 == t0 / 1440) ≡ false → added ≡ 0)
      → IsTotal w announced p t0 cost added
  total cost added is more none =
      subst (λ c. IsTotal w announced p t0 c added) (sym (is (set_at w.grid.station q) one_minute)) (total_of_sets w small announced p t0 second (but_last announced t0 (last_minute w p t0) short) added more none)
