-- The text of what was heard, written piece by piece.
use Rattle.std.proofs.Common.{◌≡◌, ℕ, zero, suc, ◌+◌, ◌<◌, ◌≤◌, inl, inr, Bool, true, false, if◌then◌else◌, List, [], ◌∷◌, ◌++◌, drop, filter, length, map, take, get_or, Result, Ok, Err, refl, sym, ap, ◌∙◌, subst, add-one, arith, append_assoc}
use Rattle.std.specs.List.{flat_map}
use Rattle.std.proofs.lemmas.Bool.{cases_lt}
use Rattle.std.proofs.lemmas.Grind.{flat_map-append}
use Rattle.std.proofs.lemmas.List.{append-nil, get_or-map, length-append, length-map, length-take-le, map-append, take-append-drop, take_more}
use Rattle.std.proofs.lemmas.List.Elements.{filter-append}
use Rattle.signal_base.specs.declared.station.Station.{Station}
use Rattle.definitions.specs.codes.Allowed.{has_station}
use Rattle.definitions.specs.heard.Receivers.{Receiver}
use Rattle.formats.specs.declared.heard.ReceiverHeard.{ReceiverHeard}
use Rattle.formats.specs.declared.heard.SlotHeard.{SlotHeard}
use Rattle.formats.specs.Heard.{Hearing, Numbered, numbered_from, receiver_heard, receiver_line, receivers_heard, slot_line, slot_lines, slot_of, slots_lines, station_lines}
use Rattle.bank_files.specs.Seen.{Seen, Writes}
use Rattle.bank_files.specs.Told.{output_name}
use Rattle.bank_files.proofs.Chaining.{Writes-failed, Writes-then}
use Rattle.bank.specs.declared.hearing.Bank.{Bank}
use Rattle.heard.specs.Kept.{heard_among, numbered_at, receiver_at, stations_lines}

-- a piece behind others
module _ {E : Type 0} (a b c : Seen) (x y z : List ℕ) where
  pub goes_on : (r : Result (Unit {0}) E) → x ++ y ≡ z → Writes {E = E} output_name a b x (Ok tt) → Writes output_name b c y r → Writes output_name a c z r
  goes_on r e first second = subst (λ (t : List ℕ). Writes output_name a c t r) e (Writes-then output_name a b c x y r first second)

  -- or a front of it, of which more would follow
  pub stops_short : (e : E) (rest : List ℕ) → (x ++ y) ++ rest ≡ z → Writes {E = E} output_name a b x (Ok tt) → Writes output_name b c y (Err e) → Writes output_name a c z (Err e)
  stops_short e rest is first second =
      subst (λ (t : List ℕ). Writes output_name a c t (Err e)) is (Writes-failed output_name a c (x ++ y) rest e (Writes-then output_name a b c x y (Err e) first second))

module _ (h : Hearing) where
  -- the lines of some stations, and of others
  pub lines_of_both : (k : ℕ) (xs ys : List Station) → stations_lines h k xs ++ stations_lines h k ys ≡ stations_lines h k (xs ++ ys)
  lines_of_both k xs ys =
      sym (ap (flat_map (station_lines h k)) (filter-append (has_station h.window.stations) xs ys)
      ∙ flat_map-append (station_lines h k) (filter (has_station h.window.stations) xs) (filter (has_station h.window.stations) ys))

  -- one station more
  pub one_station_more : (k : ℕ) (all : List Station) (i : ℕ) (d : Station) → i < length all
      → stations_lines h k (take i all) ++ stations_lines h k (get_or all i d ∷ []) ≡ stations_lines h k (take (i + 1) all)
  one_station_more k all i d within =
      lines_of_both k (take i all) (get_or all i d ∷ []) ∙ ap (stations_lines h k) (sym (take_more all i d within))

  -- and the others behind it
  pub stations_behind : (k : ℕ) (all : List Station) (i : ℕ) (d : Station) → i < length all
      → (stations_lines h k (take i all) ++ stations_lines h k (get_or all i d ∷ [])) ++ stations_lines h k (drop (i + 1) all) ≡ stations_lines h k all
  stations_behind k all i d within =
      ap (λ t. t ++ stations_lines h k (drop (i + 1) all)) (one_station_more k all i d within)
      ∙ lines_of_both k (take (i + 1) all) (drop (i + 1) all) ∙ ap (stations_lines h k) (take-append-drop (i + 1) all)

  -- the lines of one station that the window has, and none of another
  pub its_lines : (k : ℕ) (station : Station) (slot : SlotHeard) (receivers : List ReceiverHeard) → has_station h.window.stations station ≡ true
      → slot ≡ slot_of h k station → receivers ≡ receivers_heard h k station
      → slot_line slot ++ flat_map receiver_line receivers ≡ stations_lines h k (station ∷ [])
  its_lines k station slot receivers has is are =
      ap (λ s. slot_line s ++ flat_map receiver_line receivers) is ∙ ap (λ rs. slot_line (slot_of h k station) ++ flat_map receiver_line rs) are
      ∙ sym (append-nil (station_lines h k station))
      ∙ ap (λ (b : Bool). flat_map (station_lines h k) (if b then station ∷ [] else [])) (sym has)

  pub no_lines : (k : ℕ) (station : Station) → has_station h.window.stations station ≡ false → [] ≡ stations_lines h k (station ∷ [])
  no_lines k station has = ap (λ (b : Bool). flat_map (station_lines h k) (if b then station ∷ [] else [])) (sym has)

  -- one slot more
  pub one_slot_more : (k : ℕ) → slots_lines h k ++ slot_lines h k ≡ slots_lines h (k + 1)
  unfolding slots_lines
  one_slot_more k = rw add-one refl

  pub no_slots : slots_lines h 0 ≡ []
  unfolding slots_lines
  no_slots = refl

  -- and the others behind it
  abbrev GoesOnTo : ℕ → ℕ → Type 0
  GoesOnTo k n = (rest : List ℕ) × (slots_lines h k ++ rest ≡ slots_lines h n)

  slots_behind : (k n : ℕ) → k ≤ n → GoesOnTo k n
  slots_behind k zero le = let same : 0 ≡ k = omega arith in subst (λ m. GoesOnTo m 0) same ([], append-nil (slots_lines h 0))
  slots_behind k (suc n) le =
      elim (cases_lt n k) [
        | inl last ↦ let same : suc n ≡ k = omega arith in subst (λ m. GoesOnTo m (suc n)) same ([], append-nil (slots_lines h (suc n)))
        | inr before ↦
            let rest = slots_behind k n before in
            let more : n + 1 ≡ suc n = omega arith in (
              rest.0 ++ slot_lines h n,
              sym (append_assoc (slots_lines h k) rest.0 (slot_lines h n)) ∙ ap (λ t. t ++ slot_lines h n) rest.1 ∙ one_slot_more n ∙ ap (slots_lines h) more,
            )
      ]

  pub slots_after : (k n : ℕ) → k < n → (rest : List ℕ) × ((slots_lines h k ++ slot_lines h k) ++ rest ≡ slots_lines h n)
  slots_after k n lt =
      let rest = slots_behind (k + 1) n (omega arith) in
      (rest.0, ap (λ t. t ++ rest.0) (one_slot_more k) ∙ rest.1)

-- receivers with their numbers, and one more
pub numbered_more : (n : ℕ) (rs : List Receiver) (r : Receiver) → numbered_from n (rs ++ r ∷ []) ≡ numbered_from n rs ++ (n + length rs, r) ∷ []
numbered_more n [] r = let same : n ≡ n + 0 = omega arith in ap (λ m. (m, r) ∷ []) same
numbered_more n (x ∷ rs) r =
    let same : n + 1 + length rs ≡ n + suc (length rs) = omega arith in
    ap (λ all. (n, x) ∷ all) (numbered_more (n + 1) rs r ∙ ap (λ m. numbered_from (n + 1) rs ++ (m, r) ∷ []) same)

-- what is told of some receivers of a station, and of others
pub among_both : (h : Hearing) (k : ℕ) (station : Station) (xs ys : List Numbered) → heard_among h k station (xs ++ ys) ≡ heard_among h k station xs ++ heard_among h k station ys
among_both h k station xs ys =
    ap (map (receiver_heard h k)) (filter-append _ xs ys) ∙ map-append (receiver_heard h k) _ _

-- the first i receivers, and the next
pub next_numbered : (rs : List Receiver) (i : ℕ) (d : Receiver) → i < length rs → numbered_from 1 (take (i + 1) rs) ≡ numbered_from 1 (take i rs) ++ (i + 1, get_or rs i d) ∷ []
next_numbered rs i d within =
    let count : length (take i rs) ≡ i = length-take-le i rs (omega arith) in
    let number : 1 + length (take i rs) ≡ i + 1 = omega arith in
    ap (numbered_from 1) (take_more rs i d within) ∙ numbered_more 1 (take i rs) (get_or rs i d)
    ∙ ap (λ m. numbered_from 1 (take i rs) ++ (m, get_or rs i d) ∷ []) number

-- the same of the receivers that are kept
pub next_kept : (b : Bank) (places : List ℕ) (i : ℕ) → i < length places
    → numbered_from 1 (take (i + 1) (map (receiver_at b) places)) ≡ numbered_from 1 (take i (map (receiver_at b) places)) ++ numbered_at b places i ∷ []
next_kept b places i within =
    let rs = map (receiver_at b) places in
    let all = length-map places (receiver_at b) in
    next_numbered rs i (receiver_at b 0) (omega (arith, all, within))
    ∙ ap (λ r. numbered_from 1 (take i rs) ++ (i + 1, r) ∷ []) (get_or-map (receiver_at b) places i 0 (receiver_at b 0) within)

-- a list with one more
pub one_longer : {X : Type 0} (xs : List X) (x : X) → length (xs ++ x ∷ []) ≡ length xs + 1
one_longer xs x = length-append xs (x ∷ [])
