-- The order of receivers doesn't matter: put in the order of their stations they lead to the same window and costs.
use Rattle.std.proofs.Common.{◌≡◌, ℕ, ◌+◌, ◌-◌, min, Bool, true, false, ◌==◌, ◌||◌, if◌then◌else◌, List, [], ◌∷◌, ◌++◌, filter, fold, map, sum_by, Option, Some, None, refl, sym, ◌∙◌, ap, arith}
use Rattle.std.specs.Prelude.{unwrap_or}
use Rattle.std.specs.List.{flat_map}
use Rattle.std.proofs.lemmas.Bool.{eqb-true}
use Rattle.std.proofs.lemmas.List.{append-nil}
use Rattle.std.proofs.lemmas.List.Elements.{filter-append}
use Rattle.std.proofs.lemmas.List.Sums.{sum_by-cons}
use Rattle.signal_base.specs.Number.{number_of}
use Rattle.signal_base.specs.declared.station.Station.{Station}
use Rattle.signal_base.specs.declared.station.Station.TheVariants.{Dcf77, Msf, Wwvb, Jjy}
use Rattle.signal_base.specs.declared.station.Stations.{Stations}
use Rattle.signal_base.specs.declared.window.Window.{Window}
use Rattle.definitions.specs.heard.Costs.{least, slot_cost}
use Rattle.definitions.specs.heard.Logs.{Records}
use Rattle.definitions.specs.heard.Phase.{agreement, circular_distance, first_maximum, offsets, phase_of}
use Rattle.definitions.specs.heard.Receivers.{Receiver, heard_of}
use Rattle.formats.specs.declared.words.Asked.{Asked}
use Rattle.due.specs.Banks.{Bank, bit_where, by_station, costs_in, first_time, first_times, is_heard, listening_to, ordered, start_of, stations_heard, window_of}

-- a receiver is kept or left out
kept : (s : Station) (r : Receiver) (rs : List Receiver) → (number_of r.station == number_of s) ≡ true → listening_to s (r ∷ rs) ≡ r ∷ listening_to s rs
kept s r rs e = ap (λ b. if b then r ∷ listening_to s rs else listening_to s rs) e

left_out : (s : Station) (r : Receiver) (rs : List Receiver) → (number_of r.station == number_of s) ≡ false → listening_to s (r ∷ rs) ≡ listening_to s rs
left_out s r rs e = ap (λ b. if b then r ∷ listening_to s rs else listening_to s rs) e

abbrev joined : List Receiver → List Receiver → List Receiver → List Receiver → List Receiver
joined d m w j = d ++ (m ++ (w ++ (j ++ [])))

same_parts : (a b c d e f g h : List Receiver) → a ≡ e → b ≡ f → c ≡ g → d ≡ h → joined a b c d ≡ joined e f g h
same_parts a b c d e f g h p q r s = cc

-- what is made of receivers one by one, in whatever order
module _ {A : Type 0} (total : List Receiver → A) (add : Receiver → A → A) (cons : (r : Receiver) (rs : List Receiver) → total (r ∷ rs) ≡ add r (total rs)) (swap : (r s : Receiver) (a : A) → add r (add s a) ≡ add s (add r a)) where
  under : (r : Receiver) (longer shorter : List Receiver) → total longer ≡ add r (total shorter) → (xs : List Receiver) → total (xs ++ longer) ≡ add r (total (xs ++ shorter))
  under r longer shorter e [] = e
  under r longer shorter e (x ∷ xs) =
      cons x (xs ++ longer) ∙ ap (add x) (under r longer shorter e xs) ∙ swap x r (total (xs ++ shorter)) ∙ ap (add r) (sym (cons x (xs ++ shorter)))

  one_more : (r : Receiver) (rs : List Receiver) (station : Station) → r.station ≡ station → total (by_station (r ∷ rs)) ≡ add r (total (by_station rs))
  one_more r rs Dcf77 is =
      let d = listening_to Dcf77 rs in
      let m = listening_to Msf rs in
      let w = listening_to Wwvb rs in
      let j = listening_to Jjy rs in
      ap total (same_parts _ _ _ _ (r ∷ d) m w j (kept Dcf77 r rs (ap (λ s. number_of s == 0) is)) (left_out Msf r rs (ap (λ s. number_of s == 1) is))
      (left_out Wwvb r rs (ap (λ s. number_of s == 2) is)) (left_out Jjy r rs (ap (λ s. number_of s == 3) is)))
      ∙ cons r (joined d m w j)
  one_more r rs Msf is =
      let d = listening_to Dcf77 rs in
      let m = listening_to Msf rs in
      let w = listening_to Wwvb rs in
      let j = listening_to Jjy rs in
      ap total (same_parts _ _ _ _ d (r ∷ m) w j (left_out Dcf77 r rs (ap (λ s. number_of s == 0) is)) (kept Msf r rs (ap (λ s. number_of s == 1) is))
      (left_out Wwvb r rs (ap (λ s. number_of s == 2) is)) (left_out Jjy r rs (ap (λ s. number_of s == 3) is)))
      ∙ under r (r ∷ (m ++ (w ++ (j ++ [])))) (m ++ (w ++ (j ++ []))) (cons r (m ++ (w ++ (j ++ [])))) d
  one_more r rs Wwvb is =
      let d = listening_to Dcf77 rs in
      let m = listening_to Msf rs in
      let w = listening_to Wwvb rs in
      let j = listening_to Jjy rs in
      ap total (same_parts _ _ _ _ d m (r ∷ w) j (left_out Dcf77 r rs (ap (λ s. number_of s == 0) is)) (left_out Msf r rs (ap (λ s. number_of s == 1) is))
      (kept Wwvb r rs (ap (λ s. number_of s == 2) is)) (left_out Jjy r rs (ap (λ s. number_of s == 3) is)))
      ∙ under r (m ++ (r ∷ (w ++ (j ++ [])))) (m ++ (w ++ (j ++ [])))
      (under r (r ∷ (w ++ (j ++ []))) (w ++ (j ++ [])) (cons r (w ++ (j ++ []))) m) d
  one_more r rs Jjy is =
      let d = listening_to Dcf77 rs in
      let m = listening_to Msf rs in
      let w = listening_to Wwvb rs in
      let j = listening_to Jjy rs in
      ap total (same_parts _ _ _ _ d m w (r ∷ j) (left_out Dcf77 r rs (ap (λ s. number_of s == 0) is)) (left_out Msf r rs (ap (λ s. number_of s == 1) is))
      (left_out Wwvb r rs (ap (λ s. number_of s == 2) is)) (kept Jjy r rs (ap (λ s. number_of s == 3) is)))
      ∙ under r (m ++ (w ++ (r ∷ (j ++ [])))) (m ++ (w ++ (j ++ [])))
      (under r (w ++ (r ∷ (j ++ []))) (w ++ (j ++ [])) (under r (r ∷ (j ++ [])) (j ++ []) (cons r (j ++ [])) w) m) d

  same_total : (rs : List Receiver) → total (by_station rs) ≡ total rs
  same_total [] = refl
  same_total (r ∷ rs) = one_more r rs r.station refl ∙ ap (add r) (same_total rs) ∙ sym (cons r rs)

-- the stations that are heard
or_swap : (a b c : Bool) → (a || (b || c)) ≡ (b || (a || c))
or_swap true true c = refl
or_swap true false c = refl
or_swap false true c = refl
or_swap false false c = refl

same_heard : (station : Station) (rs : List Receiver) → is_heard (by_station rs) station ≡ is_heard rs station
same_heard station =
    same_total (λ rs. is_heard rs station) (λ r b. (number_of r.station == number_of station) || b) (λ r rs. refl)
    (λ r s b. or_swap (number_of r.station == number_of station) (number_of s.station == number_of station) b)

same_mask : (a b c d e f g h : Bool) → a ≡ e → b ≡ f → c ≡ g → d ≡ h
    → bit_where a 1 + bit_where b 2 + bit_where c 4 + bit_where d 8 ≡ bit_where e 1 + bit_where f 2 + bit_where g 4 + bit_where h 8
same_mask a b c d e f g h p q r s = cc

pub same_stations : (rs : List Receiver) → stations_heard (by_station rs) ≡ stations_heard rs
same_stations rs =
    ap (λ m. record { mask = m }) (same_mask _ _ _ _ _ _ _ _ (same_heard Dcf77 rs) (same_heard Msf rs) (same_heard Wwvb rs) (same_heard Jjy rs))

-- the phase
agrees : ℕ → ℕ → ℕ → Receiver → ℕ
agrees start n f r = sum_by (λ o. 50 - circular_distance o f) (offsets start n r)

same_agreement : (start n f : ℕ) (rs : List Receiver) → agreement start n (by_station rs) f ≡ agreement start n rs f
unfolding agrees
same_agreement start n f =
    same_total (λ rs. agreement start n rs f) (λ r a. agrees start n f r + a) (λ r rs. sum_by-cons (agrees start n f) r rs)
    (λ r s a. omega arith)

pub same_phase : (start n : ℕ) (rs : List Receiver) → phase_of start n (by_station rs) ≡ phase_of start n rs
same_phase start n rs =
    let same : agreement start n (by_station rs) ≡ agreement start n rs = λ i f. same_agreement start n f rs i in
    ap (λ a. first_maximum a 999) same

-- the first time
earlier : Option ℕ → Option ℕ → Option ℕ
earlier None b = b
earlier (Some a) None = Some a
earlier (Some a) (Some b) = Some (min a b)

earlier_swap : (a b c : Option ℕ) → earlier a (earlier b c) ≡ earlier b (earlier a c)
unfolding earlier
earlier_swap None b c = refl
earlier_swap (Some a) None c = refl
earlier_swap (Some a) (Some b) None = ap Some (omega arith)
earlier_swap (Some a) (Some b) (Some c) = ap Some (omega arith)

fold_min : (c d : ℕ) (cs : List ℕ) → fold min (min c d) cs ≡ min c (fold min d cs)
fold_min c d [] = refl
fold_min c d (e ∷ cs) = let same : min (min c d) e ≡ min c (min d e) = omega arith in ap (λ b. fold min b cs) same ∙ fold_min c (min d e) cs

least_one_more : (c : ℕ) (cs : List ℕ) → least (c ∷ cs) ≡ earlier (Some c) (least cs)
unfolding earlier
least_one_more c [] = refl
least_one_more c (d ∷ cs) = ap Some (fold_min c d cs)

least_joined : (log : Records) (times : List ℕ) → least (first_times log ++ times) ≡ earlier (least (first_times log)) (least times)
unfolding earlier
least_joined [] times = refl
least_joined (r ∷ rs) times = least_one_more r.0 times

pub same_first_time : (rs : List Receiver) → first_time (by_station rs) ≡ first_time rs
same_first_time rs =
    ap (λ o. unwrap_or o 0)
    (same_total (λ rs. least (flat_map (λ r. first_times r.heard.log) rs)) (λ r o. earlier (least (first_times r.heard.log)) o)
    (λ r rs. least_joined r.heard.log (flat_map (λ r. first_times r.heard.log) rs))
    (λ r s o. earlier_swap (least (first_times r.heard.log)) (least (first_times s.heard.log)) o) rs)

-- the window
abbrev window_with : Stations → ℕ → ℕ → Asked → Window
window_with stations start phase asked =
    record { stations = stations; start = start; phase = phase; seconds = asked.seconds; from = asked.from; to = asked.to }

same_parts_of_window : (a b : Stations) (s t p q : ℕ) (asked : Asked) → a ≡ b → s ≡ t → p ≡ q → window_with a s p asked ≡ window_with b t q asked
same_parts_of_window a b s t p q asked e f g = cc

pub same_window : (asked : Asked) (rs : List Receiver) → window_of asked (by_station rs) ≡ window_of asked rs
same_window asked rs =
    let start : start_of asked (by_station rs) ≡ start_of asked rs = ap (unwrap_or asked.start) (same_first_time rs) in
    same_parts_of_window _ _ _ _ _ _ asked (same_stations rs) start
    (ap (λ s. phase_of s asked.seconds (by_station rs)) start ∙ same_phase (start_of asked rs) asked.seconds rs)

-- what those of one station heard
twice : (s : Station) (rs : List Receiver) → listening_to s (listening_to s rs) ≡ listening_to s rs
twice s [] = refl
twice s (r ∷ rs) = by_test (number_of r.station == number_of s) refl (twice s rs)
  where
    by_test : (b : Bool) → (number_of r.station == number_of s) ≡ b → listening_to s (listening_to s rs) ≡ listening_to s rs
        → listening_to s (listening_to s (r ∷ rs)) ≡ listening_to s (r ∷ rs)
    by_test true e rest = ap (listening_to s) (kept s r rs e) ∙ kept s r (listening_to s rs) e ∙ ap (λ xs. r ∷ xs) rest ∙ sym (kept s r rs e)
    by_test false e rest = ap (listening_to s) (left_out s r rs e) ∙ rest ∙ sym (left_out s r rs e)

apart : (s t : Station) (rs : List Receiver) → (number_of t == number_of s) ≡ false → listening_to s (listening_to t rs) ≡ []
apart s t [] other = refl
apart s t (r ∷ rs) other = by_test (number_of r.station == number_of t) refl (apart s t rs other)
  where
    by_test : (b : Bool) → (number_of r.station == number_of t) ≡ b → listening_to s (listening_to t rs) ≡ [] → listening_to s (listening_to t (r ∷ rs)) ≡ []
    by_test true e rest =
        ap (listening_to s) (kept t r rs e)
        ∙ left_out s r (listening_to t rs) (ap (λ n. n == number_of s) (eqb-true (number_of r.station) (number_of t) e) ∙ other)
        ∙ rest
    by_test false e rest = ap (listening_to s) (left_out t r rs e) ∙ rest

of_parts : (s : Station) (d m w j : List Receiver) → listening_to s (joined d m w j) ≡ joined (listening_to s d) (listening_to s m) (listening_to s w) (listening_to s j)
of_parts s d m w j =
    let test : Receiver → Bool = λ r. number_of r.station == number_of s in
    filter-append test d (m ++ (w ++ (j ++ [])))
    ∙ ap (λ xs. filter test d ++ xs) (filter-append test m (w ++ (j ++ []))
    ∙ ap (λ xs. filter test m ++ xs) (filter-append test w (j ++ []) ∙ ap (λ xs. filter test w ++ xs) (filter-append test j [])))

same_listeners : (s : Station) (rs : List Receiver) → listening_to s (by_station rs) ≡ listening_to s rs
same_listeners s rs =
    of_parts s (listening_to Dcf77 rs) (listening_to Msf rs) (listening_to Wwvb rs) (listening_to Jjy rs) ∙ by_case s
  where
    by_case : (s : Station) → joined (listening_to s (listening_to Dcf77 rs)) (listening_to s (listening_to Msf rs)) (listening_to s (listening_to Wwvb rs)) (listening_to s (listening_to Jjy rs))
        ≡ listening_to s rs
    by_case Dcf77 =
        same_parts _ _ _ _ (listening_to Dcf77 rs) [] [] [] (twice Dcf77 rs) (apart Dcf77 Msf rs refl) (apart Dcf77 Wwvb rs refl) (apart Dcf77 Jjy rs refl)
        ∙ append-nil (listening_to Dcf77 rs)
    by_case Msf =
        same_parts _ _ _ _ [] (listening_to Msf rs) [] [] (apart Msf Dcf77 rs refl) (twice Msf rs) (apart Msf Wwvb rs refl) (apart Msf Jjy rs refl)
        ∙ append-nil (listening_to Msf rs)
    by_case Wwvb =
        same_parts _ _ _ _ [] [] (listening_to Wwvb rs) [] (apart Wwvb Dcf77 rs refl) (apart Wwvb Msf rs refl) (twice Wwvb rs) (apart Wwvb Jjy rs refl)
        ∙ append-nil (listening_to Wwvb rs)
    by_case Jjy =
        same_parts _ _ _ _ [] [] [] (listening_to Jjy rs) (apart Jjy Dcf77 rs refl) (apart Jjy Msf rs refl) (apart Jjy Wwvb rs refl) (twice Jjy rs)
        ∙ append-nil (listening_to Jjy rs)

pub same_receptions : (s : Station) (rs : List Receiver) → heard_of s (by_station rs) ≡ heard_of s rs
same_receptions s rs = ap (map (λ (r : Receiver). r.heard)) (same_listeners s rs)

-- so symbols cost the same
pub same_costs : (window : Window) (bank : Bank) → costs_in window (ordered bank) ≡ costs_in window bank
same_costs window bank = λ i station. slot_cost bank.table (same_receptions station bank.receivers i) station (window.start + window.phase)
