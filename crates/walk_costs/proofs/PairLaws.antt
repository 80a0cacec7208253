-- Where the dates of all runs stand among some parts.
use Rattle.std.proofs.Common.{◌≡◌, ℕ, ◌+◌, ◌<◌, ◌≤◌, inl, inr, Bool, true, List, [], ◌∷◌, ◌++◌, length, get_or, ap, ◌∙◌, arith}
use Rattle.std.proofs.Math.ListN.{get_or-append}
use Rattle.std.proofs.lemmas.Bool.{cases_lt}
use Rattle.std.proofs.lemmas.List.{get_or_push}
use Rattle.signal_base.specs.declared.station.Station.{Station}
use Rattle.minute_parts.specs.Parts.{PartTable}
use Rattle.slot_columns.specs.Layered.{part_at}
use Rattle.walk_costs.specs.Walks.{ArePairsOf, kept_of, pair_of}

module _ (parts : PartTable) (station : Station) (old new : List (List ℕ)) (longer : length old ≤ length new)
    (others : (k : ℕ) → k < length old → part_at new k ≡ part_at old k) where
  -- parts that are added behind the others leave them where they are
  pub still : {b : Bool} (places : List ℕ) (n : ℕ) → ArePairsOf parts station b old places n → ArePairsOf parts station b new places n
  still {b = b} places n are = record {
    within = λ i lt. omega (arith, longer, are.within i lt);
    each = λ i lt. others (pair_of places b i) (are.within i lt) ∙ are.each i lt;
  }

  -- the place of one run more
  pub one_more : (places more : List ℕ) (place n : ℕ) → length places ≡ n → more ≡ places ++ place ∷ [] → ArePairsOf parts station true old places n
      → place < length new → part_at new place ≡ kept_of parts station true n → ArePairsOf parts station true new more (n + 1)
  one_more places more place n count is are within told = record {
    within = λ i lt. elim (cases_lt i n) [
      | inl early ↦ omega (arith, longer, are.within i early, same i early)
      | inr late ↦ omega (arith, within, last i lt late)
    ];
    each = λ i lt. elim (cases_lt i n) [
      | inl early ↦ ap (part_at new) (same i early) ∙ others (get_or places i 0) (are.within i early) ∙ are.each i early
      | inr late ↦ (let here : n ≡ i = omega (arith, lt, late) in ap (part_at new) (last i lt late) ∙ told ∙ ap (kept_of parts station true) here)
    ];
  }
    where
      same : (i : ℕ) → i < n → get_or more i 0 ≡ get_or places i 0
      same i early = ap (λ (xs : List ℕ). get_or xs i 0) is ∙ get_or-append places (place ∷ []) 0 i (omega (arith, early, count))

      last : (i : ℕ) → i < n + 1 → n ≤ i → get_or more i 0 ≡ place
      last i lt late = ap (λ (xs : List ℕ). get_or xs i 0) is ∙ get_or_push places place 0 i (omega (arith, lt, late, count))
