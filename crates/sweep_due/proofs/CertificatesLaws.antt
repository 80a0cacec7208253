-- The certificates of a sweep are one list, they are valid, and the keys that they name decide the swept answer.
use Rattle.std.proofs.Common.{◌≡◌, ℕ, ◌+◌, ◌*◌, ◌<◌, ◌≤◌, ◌⊎◌, inl, inr, true, List, [], ◌∷◌, length, Option, Some, None, Ok, Err, refl, sym, ap, ◌∙◌, subst, arith}
use Rattle.std.proofs.lemmas.Bool.{and_parts, leb-true, ltb-true}
use Rattle.signal_base.specs.declared.window.Window.{Window}
use Rattle.definitions.specs.heard.Costs.{Costs}
use Rattle.definitions.specs.heard.Logs.{Records}
use Rattle.definitions.specs.sequences.Windows.{IsWindow}
use Rattle.definitions.specs.time.Calendar.{century_minutes}
use Rattle.block_visits.specs.Facts.{Facts}
use Rattle.formats.specs.declared.words.WordFault.{WordFault}
use Rattle.formats.specs.Orders.{Checked, Order, order_of}
use Rattle.formats.specs.Orders.Order.{Decode, Check, Feed, Encode, Trial, Follow, Sweep, Judge, Board, Irig, IrigRead}
use Rattle.formats.specs.OrderRanges.{IsAsked}
use Rattle.formats.specs.Words.{reach_commands}
use Rattle.formats.proofs.OrderRangeLaws.{order_in_range}
use Rattle.bank_config.specs.Configuration.{PlainConfig}
use Rattle.certificates.specs.declared.limits.TheConstants.{MOST_PARTS, MOST_STEPS}
use Rattle.certificates.specs.Certificates.{Certificate, lines_of}
use Rattle.certificates.specs.Judged.{IsGoodCertificate}
use Rattle.certificates.specs.Texts.{certificate_text}
use Rattle.certificates.specs.Validity.{IsValid}
use Rattle.due.specs.Banks.{Bank, bank_of, costs_in, window_of}
use Rattle.due.specs.CertificateRules.{IsBankCertificate, parts_for}
use Rattle.due.specs.Inputs.{Contents}
use Rattle.due.specs.Loads.{IsBankLoaded}
use Rattle.due.proofs.CertificateDueLaws.{IsBankInRange, bank_in_range, small_bounds, window_in_range}
use Rattle.due.proofs.CertificateLaws.{is_good, is_valid, lines_are, one_certificate, some_certificate}
use Rattle.due.proofs.DueLaws.{IsBankJudged, bank_judged, not_both, one_bank}
use Rattle.sweep_due.specs.declared.offsets.TheConstants.{OFFSET_REACH, OFFSET_STEP, PHASE_LIMIT}
use Rattle.sweep_due.specs.declared.standing.Standing.{Standing}
use Rattle.sweep_due.specs.Phases.{is_swept, phase_at, swept_offsets, window_at}
use Rattle.sweep_due.specs.Searches.{AreAllSwept, IsAmong, IsSearched, IsSearchedAt}
use Rattle.sweep_due.specs.Standings.{answer_told, nothing_yet, window_told, with_two}
use Rattle.sweep_due.specs.SweepOrders.{sweep_order_in}
use Rattle.sweep_due.specs.SweepCertificates.{AreCertificates, AreCertificatesDue, AsksCertificates, CertificatesOrder, EachAt, Not_asked, Not_loaded, SweptCertificates, Written, certificates_name, name_asked, standing_named}
use Rattle.sweep_due.specs.SweepOwed.{IsSweepOwed, SweepOwed}
use Rattle.sweep_due.specs.Swept.{IsSweptAnswer, IsToldWindow}
use Rattle.sweep_due.proofs.AnswerLaws.{swept_answer_is, told_window_is}
use Rattle.sweep_due.proofs.SweepReadLaws.{asks_of_sweep}
use Rattle.sweep_due.proofs.SweepDueLaws.{one_sweep_due, some_sweep_due}
use Rattle.sweep_due.proofs.OffsetLaws.{all_swept}
use Rattle.sweep_due.proofs.SearchLaws.{not_above_the_bank}

-- the window at an offset that is swept is in its ranges, as that of a decode is
phase_bound : (phase i : ℕ) → is_swept phase i ≡ true → phase_at phase i < 1000
phase_bound phase i is =
    let both = and_parts _ _ is in
    let low = leb-true OFFSET_REACH (phase + OFFSET_STEP * i) both.0 in
    let high = ltb-true (phase + OFFSET_STEP * i) (PHASE_LIMIT + OFFSET_REACH) both.1 in
    omega (arith, low, high)

pub window_at_in_range : (window : Window) (i : ℕ) → IsWindow window → is_swept window.phase i ≡ true → IsWindow (window_at window i)
window_at_in_range window i is swept = record {
  some_station = is.some_station;
  stations = is.stations;
  start = is.start;
  phase = phase_bound window.phase i swept;
  not_short = is.not_short;
  not_long = is.not_long;
  not_empty = is.not_empty;
  century = is.century;
}

-- there is one certificate at each offset, so one list of them
module _ (window : Window) (bank : Bank) (workers : ℕ) where
  pub one_list : (is : List ℕ) (cs ds : List Certificate) → AreCertificates window bank workers is cs → AreCertificates window bank workers is ds → cs ≡ ds
  one_list [] cs ds h k = h ∙ sym k
  one_list (i ∷ is) [] ds h k = absurd h
  one_list (i ∷ is) (c ∷ cs) [] h k = absurd k
  one_list (i ∷ is) (c ∷ cs) (d ∷ ds) h k =
      let same = one_certificate (costs_in (window_at window i) bank) (window_at window i) bank.ceiling workers c d h.0 k.0 in
      let rest = one_list is cs ds h.1 k.1 in
      λ n. same n ∷ rest n

  module _ (facts : (costs : Costs) (w : Window) (ceiling : ℕ) → w.to ≤ century_minutes → Facts costs w ceiling) (fits : IsWindow window) (ranges : IsBankInRange bank) where
    some_list : (is : List ℕ) → ((i : ℕ) → IsAmong is i → is_swept window.phase i ≡ true) → (cs : List Certificate) × AreCertificates window bank workers is cs
    some_list [] each = ([], refl)
    some_list (i ∷ is) each =
        let at = window_at_in_range window i fits (each i (inl refl)) in
        let one = some_certificate (costs_in (window_at window i) bank) (window_at window i) bank.ceiling workers (facts (costs_in (window_at window i) bank) (window_at window i) 0 at.century)
        (small_bounds (window_at window i) bank at ranges) in
        let rest = some_list is (λ j is. each j (inr is)) in
        (one.0 ∷ rest.0, (one.1, rest.1))

    pub some_swept : (cs : List Certificate) × AreCertificates window bank workers (swept_offsets window.phase) cs
    some_swept = some_list (swept_offsets window.phase) (λ i is. ((all_swept window.phase).each i is).1)

-- what holds of each offset and its certificate may be weaker
pub each_weaker : (P Q : ℕ → Certificate → Type 0) → ((i : ℕ) (c : Certificate) → P i c → Q i c) → (is : List ℕ) (cs : List Certificate) → EachAt P is cs → EachAt Q is cs
each_weaker P Q weaker [] cs each = each
each_weaker P Q weaker (i ∷ is) [] each = each
each_weaker P Q weaker (i ∷ is) (c ∷ cs) each = (weaker i c each.0, each_weaker P Q weaker is cs each.1)

-- what they name, put together, is what searches find
abbrev rev_onto : List ℕ → List ℕ → List ℕ
rev_onto [] earlier = earlier
rev_onto (i ∷ is) earlier = rev_onto is (i ∷ earlier)

among_back : (is earlier : List ℕ) (j : ℕ) → IsAmong (rev_onto is earlier) j → IsAmong is j ⊎ IsAmong earlier j
among_back [] earlier j here = inr here
among_back (i ∷ is) earlier j here = elim (among_back is (i ∷ earlier) j here) [
  | inl later ↦ inl (inr later)
  | inr (inl same) ↦ inl (inl same)
  | inr (inr before) ↦ inr before
]

among_on : (is earlier : List ℕ) (j : ℕ) → IsAmong is j ⊎ IsAmong earlier j → IsAmong (rev_onto is earlier) j
among_on [] earlier j (inl none) = absurd none
among_on [] earlier j (inr before) = before
among_on (i ∷ is) earlier j (inl (inl same)) = among_on is (i ∷ earlier) j (inr (inl same))
among_on (i ∷ is) earlier j (inl (inr later)) = among_on is (i ∷ earlier) j (inl later)
among_on (i ∷ is) earlier j (inr before) = among_on is (i ∷ earlier) j (inr (inr before))

all_turned : (phase : ℕ) → AreAllSwept phase (rev_onto (swept_offsets phase) [])
all_turned phase = record {
  each = λ j here. elim (among_back (swept_offsets phase) [] j here) [ inl among ↦ (all_swept phase).each j among | inr none ↦ absurd none ];
  all = λ j is. among_on (swept_offsets phase) [] j (inl ((all_swept phase).all j is));
}

module _ (window : Window) (bank : Bank) (workers : ℕ) where
  named_at : (i : ℕ) (c : Certificate) (before : Standing) → IsBankCertificate (window_at window i) bank workers c
      → IsSearchedAt window bank i before (with_two before i c.head.first c.head.second)
  named_at i c before of = record {
    ceiling = bank.ceiling;
    not_below = not_above_the_bank bank.ceiling before.second;
    not_above = omega arith;
    found = (of.first, of.second, of.named, ap (λ (d : Certificate). with_two before i d.head.first d.head.second) of.is);
  }

  named_along : (is : List ℕ) (cs : List Certificate) (earlier : List ℕ) (s : Standing) → AreCertificates window bank workers is cs → IsSearched window bank earlier s
      → IsSearched window bank (rev_onto is earlier) (standing_named is cs s)
  named_along [] cs earlier s are searched = searched
  named_along (i ∷ is) [] earlier s are searched = absurd are
  named_along (i ∷ is) (c ∷ cs) earlier s are searched =
      named_along is cs (i ∷ earlier) (with_two s i c.head.first c.head.second) are.1 (s, searched, named_at i c s are.0)

  module _ (cs : List Certificate) (century : window.to ≤ century_minutes) (phase : window.phase < PHASE_LIMIT) (are : AreCertificates window bank workers (swept_offsets window.phase) cs) where
    abbrev s : Standing
    s = standing_named (swept_offsets window.phase) cs nothing_yet

    searched : IsSearched window bank (rev_onto (swept_offsets window.phase) []) s
    searched = named_along (swept_offsets window.phase) cs [] nothing_yet are refl

    pub named_answer : IsSweptAnswer window bank (answer_told s)
    named_answer = swept_answer_is window bank century phase (rev_onto (swept_offsets window.phase) []) (all_turned window.phase) s searched

    pub named_window : IsToldWindow window bank (answer_told s) (window_told window s)
    named_window = told_window_is window bank century phase (rev_onto (swept_offsets window.phase) []) (all_turned window.phase) s searched

-- what words ask of certificates
same_sweep : (c : Checked Order) (o p : CertificatesOrder) → c ≡ Ok (Sweep o.config o.asked o.workers (Some o.name)) → c ≡ Ok (Sweep p.config p.asked p.workers (Some p.name))
    → (o.config ≡ p.config) × (o.asked ≡ p.asked) × (o.workers ≡ p.workers) × (o.name ≡ p.name)
same_sweep c o p e f = (cc, cc, cc, cc)

one_order : (words : List (List ℕ)) (o p : CertificatesOrder) → AsksCertificates words o → AsksCertificates words p → o ≡ p
one_order words o p e f =
    let same = same_sweep (order_of reach_commands words) o p e f in
    λ i. record { config = same.0 i; asked = same.1 i; workers = same.2 i; name = same.3 i }

pub asks_by_name : (words : List (List ℕ)) (o : CertificatesOrder) → AsksCertificates words o → certificates_name words ≡ Some o.name
asks_by_name words o e = ap name_asked e

none_some : {A : Type 0} (found : Option A) (x : A) → found ≡ None → found ≡ Some x → ⊥
none_some found x e f = cc

-- the numbers are in their ranges
record IsCertificatesInRange (o : CertificatesOrder) : Type 0 where
  asked : IsAsked o.asked
  some_worker : 1 ≤ o.workers
  few_workers : o.workers ≤ MOST_PARTS

in_range : (words : List (List ℕ)) (o : CertificatesOrder) → AsksCertificates words o → IsCertificatesInRange o
in_range words o asks =
    let ranges = order_in_range reach_commands words (Sweep o.config o.asked o.workers (Some o.name)) asks in
    record { asked = ranges.1; some_worker = omega (arith, ranges.2.0); few_workers = omega (arith, ranges.2.1) }

-- who names files asks for certificates, or no one does
abbrev Asking : List (List ℕ) → Type 0
Asking words = (certificates_name words ≡ None) ⊎ ((o : CertificatesOrder) × AsksCertificates words o)

asking : (words : List (List ℕ)) → Asking words
asking words = go (order_of reach_commands words) refl
  where
    no_one : (c : Checked Order) → order_of reach_commands words ≡ c → name_asked c ≡ None → Asking words
    no_one c e none = inl (ap name_asked e ∙ none)

    go : (c : Checked Order) → order_of reach_commands words ≡ c → Asking words
    go (Ok (Sweep config asked workers (Some name))) e = inr (record { config = config; asked = asked; workers = workers; name = name }, e)
    go (Ok (Sweep config asked workers None)) e = no_one (Ok (Sweep config asked workers None)) e refl
    go (Ok (Decode config asked workers certificate)) e = no_one (Ok (Decode config asked workers certificate)) e refl
    go (Ok (Check config certificate asked)) e = no_one (Ok (Check config certificate asked)) e refl
    go (Ok (Feed config asked workers)) e = no_one (Ok (Feed config asked workers)) e refl
    go (Ok (Encode station minute leap)) e = no_one (Ok (Encode station minute leap)) e refl
    go (Ok (Trial number workers)) e = no_one (Ok (Trial number workers)) e refl
    go (Ok (Follow config asked workers step count)) e = no_one (Ok (Follow config asked workers step count)) e refl
    go (Ok (Judge config certificate asked)) e = no_one (Ok (Judge config certificate asked)) e refl
    go (Ok (Board config queries asked workers step count readers)) e = no_one (Ok (Board config queries asked workers step count readers)) e refl
    go (Ok (Irig config asked workers)) e = no_one (Ok (Irig config asked workers)) e refl
    go (Ok (IrigRead file)) e = no_one (Ok (IrigRead file)) e refl
    go (Err fault) e = no_one (Err fault) e refl

-- refused words ask for none
pub bad_words_ask_none : (words : List (List ℕ)) (fault : WordFault) → sweep_order_in words ≡ Err fault → certificates_name words ≡ None
bad_words_ask_none words fault bad = elim (asking words) [
  | inl none ↦ none
  | inr asks ↦ let also = (asks_of_sweep words asks.0 asks.1).2 in absurd cc
]

module _ (contents : Contents) where
  -- of one bank one list is owed
  abbrev pub AreOwedBy : CertificatesOrder → PlainConfig → List Records → List Certificate → Type 0
  AreOwedBy o config records cs =
      AreCertificates (window_of o.asked (bank_of config records).receivers) (bank_of config records) o.workers
      (swept_offsets (window_of o.asked (bank_of config records).receivers).phase) cs

  abbrev with_list : CertificatesOrder → Bank → List Certificate → SweptCertificates
  with_list o bank cs = record { phase = (window_of o.asked bank.receivers).phase; each = cs }

  pub same_owed : (words : List (List ℕ)) (o p : CertificatesOrder) (config other : PlainConfig) (records others : List Records) (cs : List Certificate) → AsksCertificates words o
      → AsksCertificates words p → IsBankLoaded contents config records → IsBankLoaded contents other others → AreOwedBy o config records cs → AreOwedBy p other others cs
  same_owed words o p config other records others cs asks also loaded too owed =
      subst (λ (r : CertificatesOrder). AreOwedBy r other others cs) (one_order words o p asks also)
      (subst (λ (b : Bank). AreCertificates (window_of o.asked b.receivers) b o.workers (swept_offsets (window_of o.asked b.receivers).phase) cs)
      (one_bank contents config other records others loaded too) owed)

  one_written : (words : List (List ℕ)) (o p : CertificatesOrder) (config other : PlainConfig) (records others : List Records) (cs ds : List Certificate) (a b : Option SweptCertificates)
      → AsksCertificates words o → AsksCertificates words p → IsBankLoaded contents config records → IsBankLoaded contents other others → AreOwedBy o config records cs
      → AreOwedBy p other others ds → a ≡ Some (with_list o (bank_of config records) cs) → b ≡ Some (with_list p (bank_of other others) ds) → a ≡ b
  one_written words o p config other records others cs ds a b asks also loaded too owed owed_too e f =
      let bank = bank_of other others in
      let window = window_of p.asked bank.receivers in
      let same = one_list window bank p.workers (swept_offsets window.phase) cs ds (same_owed words o p config other records others cs asks also loaded too owed) owed_too in
      let order = one_order words o p asks also in
      let banks = one_bank contents config other records others loaded too in
      e ∙ ((λ n. Some (with_list (order n) (banks n) (same n))) ∙ sym f)

  one_owed : (words : List (List ℕ)) (a b : Option SweptCertificates) → AreCertificatesDue words contents a → AreCertificatesDue words contents b → a ≡ b
  one_owed words a b (Not_asked none e) (Not_asked also f) = e ∙ sym f
  one_owed words a b (Not_asked none e) (Not_loaded o asks refusal bad f) = absurd (none_some (certificates_name words) o.name none (asks_by_name words o asks))
  one_owed words a b (Not_asked none e) (Written o asks config records loaded cs owed f) = absurd (none_some (certificates_name words) o.name none (asks_by_name words o asks))
  one_owed words a b (Not_loaded o asks refusal bad e) (Not_asked none f) = absurd (none_some (certificates_name words) o.name none (asks_by_name words o asks))
  one_owed words a b (Not_loaded o asks refusal bad e) (Not_loaded p also other worse f) = e ∙ sym f
  one_owed words a b (Not_loaded o asks refusal bad e) (Written p also config records loaded cs owed f) = absurd (not_both contents config records refusal loaded bad)
  one_owed words a b (Written o asks config records loaded cs owed e) (Not_asked none f) = absurd (none_some (certificates_name words) o.name none (asks_by_name words o asks))
  one_owed words a b (Written o asks config records loaded cs owed e) (Not_loaded p also refusal bad f) = absurd (not_both contents config records refusal loaded bad)
  one_owed words a b (Written o asks config records loaded cs owed e) (Written p also other others too ds owed_too f) =
      one_written words o p config other records others cs ds a b asks also loaded too owed owed_too e f

  pub one_thing : (words : List (List ℕ)) (a b : SweepOwed) → IsSweepOwed words contents a → IsSweepOwed words contents b → a ≡ b
  one_thing words a b h k =
      let due = one_sweep_due contents words a.due b.due h.due_is k.due_is in
      let certificates = one_owed words a.certificates b.certificates h.certificates_are k.certificates_are in
      λ i. record { due = due i; certificates = certificates i }

  -- something is owed
  module _ (facts : (costs : Costs) (window : Window) (ceiling : ℕ) → window.to ≤ century_minutes → Facts costs window ceiling) where
    of_order : (words : List (List ℕ)) (o : CertificatesOrder) → AsksCertificates words o → (owed : Option SweptCertificates) × AreCertificatesDue words contents owed
    of_order words o asks = go (bank_judged contents)
      where
        go : IsBankJudged contents → (owed : Option SweptCertificates) × AreCertificatesDue words contents owed
        go (inr bad) = (None, Not_loaded o asks bad.0 bad.1 refl)
        go (inl good) =
            let bank = bank_of good.0 good.1 in
            let fits = window_in_range contents good.0 good.1 good.2 o.asked (in_range words o asks).asked in
            let found = some_swept (window_of o.asked bank.receivers) bank o.workers facts fits (bank_in_range contents good.0 good.1 good.2) in
            (Some (with_list o bank found.0), Written o asks good.0 good.1 good.2 found.0 found.1 refl)

    some_owed : (words : List (List ℕ)) → (owed : Option SweptCertificates) × AreCertificatesDue words contents owed
    some_owed words = go (asking words)
      where
        go : Asking words → (owed : Option SweptCertificates) × AreCertificatesDue words contents owed
        go (inl none) = (None, Not_asked none refl)
        go (inr asks) = of_order words asks.0 asks.1

    pub some_thing : (words : List (List ℕ)) → (owed : SweepOwed) × IsSweepOwed words contents owed
    some_thing words =
        let due = some_sweep_due contents words in
        let certificates = some_owed words in
        (record { due = due.0; certificates = certificates.0 }, record { due_is = due.1; certificates_are = certificates.1 })

    -- each is valid, and its text is good, if it isn't too long
    module _ (words : List (List ℕ)) (o : CertificatesOrder) (config : PlainConfig) (records : List Records) (asks : AsksCertificates words o)
        (loaded : IsBankLoaded contents config records) where
      abbrev bank : Bank
      bank = bank_of config records

      abbrev window : Window
      window = window_of o.asked bank.receivers

      abbrev IsRight : ℕ → Certificate → Type 0
      IsRight i c =
          IsValid (costs_in (window_at window i) bank) (window_at window i) bank.ceiling c × (c.parts ≡ parts_for o.workers (lines_of c))
          × (length (lines_of c) ≤ MOST_STEPS
          → IsGoodCertificate (costs_in (window_at window i) bank) (window_at window i) bank.ceiling (certificate_text c) c.head.first c.head.second)

      right_at : (i : ℕ) (c : Certificate) → is_swept window.phase i ≡ true → IsBankCertificate (window_at window i) bank o.workers c → IsRight i c
      right_at i c swept of =
          let asked = in_range words o asks in
          let fits = window_at_in_range window i (window_in_range contents config records loaded o.asked asked.asked) swept in
          let low = (bank_in_range contents config records loaded).ceiling in
          let costs = costs_in (window_at window i) bank in
          let lines : lines_of c ≡ of.lines = ap lines_of of.is ∙ lines_are o.workers of.lines in (
            is_valid costs (window_at window i) bank.ceiling o.workers (λ n. facts costs (window_at window i) n fits.century) fits low asked.some_worker asked.few_workers c of,
            ap (λ (d : Certificate). d.parts) of.is ∙ ap (parts_for o.workers) (sym lines),
            is_good costs (window_at window i) bank.ceiling o.workers (λ n. facts costs (window_at window i) n fits.century) fits low asked.some_worker asked.few_workers c of,
          )

      right_along : (is : List ℕ) (cs : List Certificate) → ((i : ℕ) → IsAmong is i → is_swept window.phase i ≡ true) → AreCertificates window bank o.workers is cs → EachAt IsRight is cs
      right_along [] cs each are = are
      right_along (i ∷ is) [] each are = are
      right_along (i ∷ is) (c ∷ cs) each are = (right_at i c (each i (inl refl)) are.0, right_along is cs (λ j is. each j (inr is)) are.1)

      pub all_right : (cs : List Certificate) → AreOwedBy o config records cs → EachAt IsRight (swept_offsets window.phase) cs
      all_right cs are = right_along (swept_offsets window.phase) cs (λ i is. ((all_swept window.phase).each i is).1) are
