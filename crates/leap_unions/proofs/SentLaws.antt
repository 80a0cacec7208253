-- What a telegram says of the seconds of a minute.
use Rattle.std.proofs.Common.{◌≡◌, ℕ, Bool, true, nat_lt, if◌then◌else◌, List, [], get_or, map, Option, Some, None, unwrap_or, ap, ◌∙◌, arith}
use Rattle.std.specs.List.{range_with_len}
use Rattle.std.proofs.lemmas.Bool.{lt-ltb}
use Rattle.std.proofs.lemmas.List.FromFn.{get_or-map-range_with_len}
use Rattle.signal_base.specs.declared.station.Station.{Station}
use Rattle.definitions.specs.codes.Allowed.{allowed, encoded_year, telegram_of}
use Rattle.leap_unions.specs.Tapes.{AreSent}

module _ (station : Station) (announced : Bool) (t : ℕ) where
  abbrev all : List ℕ
  all = map (λ s. allowed station announced (t, s)) (range_with_len 0 61)

  by_year : (b : Bool) → nat_lt (encoded_year station t) 2100 ≡ b → telegram_of station announced t ≡ (if b then Some all else None)
  by_year b is = ap (λ (c : Bool). if c then Some all else None) is

  pub are_sent : (sets : List ℕ) → Some sets ≡ telegram_of station announced t → AreSent station announced t sets
  are_sent sets is = λ encoded s lt.
      let yes : nat_lt (encoded_year station t) 2100 ≡ true = lt-ltb _ _ (omega (arith, encoded)) in
      ap (λ (o : Option (List ℕ)). get_or (unwrap_or o []) s 0) (is ∙ by_year true yes)
      ∙ get_or-map-range_with_len (λ n. allowed station announced (t, n)) 0 61 s s 0 lt (omega arith)

  pub none_sent : (sets : List ℕ) → None ≡ telegram_of station announced t → AreSent station announced t sets
  none_sent sets is = λ encoded s lt.
      let yes : nat_lt (encoded_year station t) 2100 ≡ true = lt-ltb _ _ (omega (arith, encoded)) in
      let no : None ≡ Some all = is ∙ by_year true yes in
      absurd cc
