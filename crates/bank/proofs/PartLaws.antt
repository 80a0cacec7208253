-- What the receivers of a station heard is a part of what all of them heard, where they stand in the order of their stations.
use Rattle.std.proofs.Common.{◌≡◌, ℕ, zero, suc, ◌+◌, ◌-◌, ◌<◌, ◌≤◌, ◌==◌, nat_lt, ◌⊎◌, inl, inr, true, false, List, [], ◌∷◌, length, take, drop, get_or, refl, sym, ap, ◌∙◌, arith}
use Rattle.std.proofs.lemmas.Bool.{cases_lt}
use Rattle.std.proofs.lemmas.Bool.Decides.{nat_tests}
use Rattle.std.proofs.lemmas.List.{length-drop, length-take}
use Rattle.std.specs.List.Sorted.{IsNonDecreasingBy}
use Rattle.signal_base.specs.declared.station.Station.{Station}
use Rattle.signal_base.specs.declared.station.Station.TheVariants.{Dcf77, Msf, Wwvb, Jjy}
use Rattle.signal_base.specs.declared.tuning.Tuning.{Tuning}
use Rattle.signal_base.specs.Number.{number_of}
use Rattle.definitions.specs.heard.Logs.{Records}
use Rattle.definitions.specs.heard.Receivers.{Reception, heard_of, receptions}
use Rattle.align.specs.Receivers.{receivers}
use Rattle.bank.specs.declared.hearing.Bank.{Bank}
use Rattle.bank.specs.Hearing.{IsBank, count_before, count_of, heard_in, part_of}

-- a list that rises rises behind its first
rest_rises : (s : Station) (ss : List Station) → IsNonDecreasingBy number_of (s ∷ ss) → IsNonDecreasingBy number_of ss
rest_rises s ss up i j d first last = up (suc i) (suc j) d (omega arith) (omega arith)

-- each has at least this number
abbrev AtLeast : ℕ → List Station → Type 0
AtLeast n ss = (i : ℕ) (d : Station) → i < length ss → n ≤ number_of (get_or ss i d)

rest_at_least : (n : ℕ) (s : Station) (ss : List Station) → AtLeast n (s ∷ ss) → AtLeast n ss
rest_at_least n s ss all i d below = all (suc i) d (omega arith)

first_is_least : (s : Station) (ss : List Station) → IsNonDecreasingBy number_of (s ∷ ss) → AtLeast (number_of s) ss
first_is_least s ss up i d below = up 0 (suc i) d (omega arith) (omega arith)

module _ (station : Station) where
  -- where none is before the station, none is counted as such
  none_before : (ss : List Station) → AtLeast (number_of station) ss → count_before station ss ≡ 0
  none_before [] all = refl
  none_before (s ∷ ss) all =
      let first : number_of station ≤ number_of s = all 0 s (omega arith) in
      let behind : nat_lt (number_of s) (number_of station) ≡ false = grind (arith, nat_tests) in
      rw behind (none_before ss (rest_at_least (number_of station) s ss all))

  -- where all are behind the station, none is of it
  none_of : (ss : List Station) (n : ℕ) → number_of station < n → AtLeast n ss → count_of station ss ≡ 0
  none_of [] n below all = refl
  none_of (s ∷ ss) n below all =
      let first : n ≤ number_of s = all 0 s (omega arith) in
      let other : (number_of s == number_of station) ≡ false = grind arith in
      rw other (none_of ss n below (rest_at_least n s ss all))

  none_heard : (ss : List Station) (rs : List Reception) (n : ℕ) → number_of station < n → AtLeast n ss → heard_of station (receivers ss rs) ≡ []
  none_heard [] rs n below all = refl
  none_heard (s ∷ ss) [] n below all = refl
  none_heard (s ∷ ss) (r ∷ rs) n below all =
      let first : n ≤ number_of s = all 0 s (omega arith) in
      let other : (number_of s == number_of station) ≡ false = grind arith in
      rw other (none_heard ss rs n below (rest_at_least n s ss all))

  -- those of the station are the part that is counted
  pub heard_part : (ss : List Station) (rs : List Reception) → length rs ≡ length ss → IsNonDecreasingBy number_of ss
      → heard_of station (receivers ss rs) ≡ part_of station ss rs
  heard_part [] [] each up = refl
  heard_part [] (r ∷ rs) each up = absurd (omega arith)
  heard_part (s ∷ ss) [] each up = absurd (omega arith)
  heard_part (s ∷ ss) (r ∷ rs) each up =
      by_place (heard_part ss rs (omega arith) (rest_rises s ss up)) (cases_lt (number_of s) (number_of station)) (cases_lt (number_of station) (number_of s))
    where
      by_place : heard_of station (receivers ss rs) ≡ part_of station ss rs → (number_of s < number_of station) ⊎ (number_of station ≤ number_of s)
          → (number_of station < number_of s) ⊎ (number_of s ≤ number_of station) → heard_of station (receivers (s ∷ ss) (r ∷ rs)) ≡ part_of station (s ∷ ss) (r ∷ rs)
      by_place rest (inl before) at =
          let other : (number_of s == number_of station) ≡ false = grind arith in
          let is : nat_lt (number_of s) (number_of station) ≡ true = grind (arith, nat_tests) in
          rw (other, is) rest
      by_place rest (inr not_before) (inl behind) =
          let other : (number_of s == number_of station) ≡ false = grind arith in
          let is : nat_lt (number_of s) (number_of station) ≡ false = grind (arith, nat_tests) in
          let none = none_of ss (number_of s) behind (first_is_least s ss up) in
          rw (other, is, none) (none_heard ss rs (number_of s) behind (first_is_least s ss up))
      by_place rest (inr not_before) (inr not_behind) =
          let same : (number_of s == number_of station) ≡ true = grind arith in
          let is : nat_lt (number_of s) (number_of station) ≡ false = grind (arith, nat_tests) in
          let least : AtLeast (number_of station) ss = λ i d below. let low = first_is_least s ss up i d below in omega arith in
          let none = none_before ss least in
          rw (same, is, none) (ap (λ hs. r ∷ hs) (rw none at rest))

-- a part of what was heard is what the parts of the two lists say
no_logs : (ts : List Tuning) → receptions ts [] ≡ []
no_logs [] = refl
no_logs (t ∷ ts) = refl

drop_both : (n : ℕ) (ts : List Tuning) (logs : List Records) → drop n (receptions ts logs) ≡ receptions (drop n ts) (drop n logs)
drop_both zero ts logs = refl
drop_both (suc n) [] logs = refl
drop_both (suc n) (t ∷ ts) [] = sym (no_logs (drop n ts))
drop_both (suc n) (t ∷ ts) (l ∷ ls) = drop_both n ts ls

take_both : (n : ℕ) (ts : List Tuning) (logs : List Records) → take n (receptions ts logs) ≡ receptions (take n ts) (take n logs)
take_both zero ts logs = refl
take_both (suc n) [] logs = refl
take_both (suc n) (t ∷ ts) [] = refl
take_both (suc n) (t ∷ ts) (l ∷ ls) = ap (λ hs. record { tuning = t; log = l } ∷ hs) (take_both n ts ls)

pub part_of_both : (station : Station) (ss : List Station) (ts : List Tuning) (logs : List Records)
    → part_of station ss (receptions ts logs) ≡ receptions (part_of station ss ts) (part_of station ss logs)
part_of_both station ss ts logs =
    ap (take (count_of station ss)) (drop_both (count_before station ss) ts logs)
    ∙ take_both (count_of station ss) (drop (count_before station ss) ts) (drop (count_before station ss) logs)

-- a part that is taken from its place on, up to the one behind it
pub part_is : {X : Type 0} (station : Station) (ss : List Station) (xs part : List X) (from behind : ℕ) → from ≡ count_before station ss
    → behind ≡ count_before station ss + count_of station ss → part ≡ take (behind - from) (drop from xs) → part ≡ part_of station ss xs
part_is station ss xs part from behind first last is =
    let many : behind - from ≡ count_of station ss = omega arith in
    is ∙ ap (λ n. take n (drop from xs)) many ∙ ap (λ n. take (count_of station ss) (drop n xs)) first

pub part_length : {X : Type 0} (station : Station) (ss : List Station) (xs : List X) → count_before station ss + count_of station ss ≤ length xs
    → length (part_of station ss xs) ≡ count_of station ss
part_length station ss xs within =
    let taken = length-take (count_of station ss) (drop (count_before station ss) xs) in
    let left = length-drop (count_before station ss) xs in
    omega arith

pub receptions_length : (ts : List Tuning) (logs : List Records) → length logs ≡ length ts → length (receptions ts logs) ≡ length ts
receptions_length [] logs each = refl
receptions_length (t ∷ ts) [] each = absurd (omega arith)
receptions_length (t ∷ ts) (l ∷ ls) each = ap suc (receptions_length ts ls (omega arith))

-- each receiver listens to one of the four stations
pub counts_add_up : (ss : List Station) → count_of Dcf77 ss + count_of Msf ss + count_of Wwvb ss + count_of Jjy ss ≡ length ss
counts_add_up [] = refl
counts_add_up (Dcf77 ∷ ss) = let rest = counts_add_up ss in omega (arith, rest)
counts_add_up (Msf ∷ ss) = let rest = counts_add_up ss in omega (arith, rest)
counts_add_up (Wwvb ∷ ss) = let rest = counts_add_up ss in omega (arith, rest)
counts_add_up (Jjy ∷ ss) = let rest = counts_add_up ss in omega (arith, rest)

-- what the receivers of a station heard, of a bank that is in order
pub heard_in_bank : (b : Bank) → IsBank b → (station : Station) → heard_of station (receivers b.stations.items (receptions b.tunings.items b.logs.items)) ≡ heard_in station b
heard_in_bank b is station =
    heard_part station b.stations.items (receptions b.tunings.items b.logs.items)
    (receptions_length b.tunings.items b.logs.items (is.logs ∙ sym is.tunings) ∙ is.tunings) is.in_order
    ∙ part_of_both station b.stations.items b.tunings.items b.logs.items
